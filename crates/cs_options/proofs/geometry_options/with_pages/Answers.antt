use Rattle.std.proofs.Common.{◌≡◌, Some, refl, subst, sym, true≢false}
use Rattle.std.specs.Prelude.{Err, IfOk, IfSome, IsNone, IsOk, Ok, Option, Result}
use Rattle.std.specs.Result.{result_ok}
use Rattle.std.proofs.lemmas.Bool.{false≢true}
use Rattle.cs_options.specs.Wishes.{}
use Rattle.cs_options.proofs.GeometrySteps.{made_is_none, made_roomiest, made_takes_none, whole_geometry}
use Rattle.cs_options.proofs.geometry_options.with_pages.Goals as goal

-- what holds of what is made holds of what is given
of_made : {A E : Type 0} (made : Result A E) (given : Option A) → given ≡ result_ok made → (P Q R : A → Type 0) → IfOk made P → IfOk made Q
    → ((x : A) → P x → Q x → R x) → IfSome given R
of_made (Ok x) given is P Q R p q gives = subst (λ (o : Option _). IfSome o R) (sym is) (gives x p q)
of_made (Err e) given is P Q R p q gives = subst (λ (o : Option _). IfSome o R) (sym is) tt

none_made : {A E : Type 0} (made : Result A E) (given : Option A) → given ≡ result_ok made → IsNone given → IsOk made → ⊥
none_made (Ok x) given is none made = absurd (true≢false (let wrong : IsNone (Some x) = subst (λ (o : Option _). IsNone o) is none in wrong))
none_made (Err e) given is none made = absurd (false≢true made)

pub returns-then-not-takes_two-clause-none : goal.returns-then-not-takes_two-clause-none
returns-then-not-takes_two-clause-none c none =
    made_takes_none c.args.wish.size c.args.wish.shard_size c.args.wish.shards c.args.pages c.extents_on-extents.result c.extents_on-extents.ensures.greatest
    (λ two. absurd (false≢true (c.if-not-takes_two.ensures.1 two)))

pub returns-clause-roomiest : goal.returns-clause-roomiest
returns-clause-roomiest c =
    of_made c.for_file.result c.ok.result c.ok.ensures.value _ _ _ c.for_file.ensures.extents c.for_file.ensures.pages
    (λ geometry extents_is pages_is. rw (extents_is, pages_is) (made_roomiest c.args.wish.size c.args.wish.shard_size c.args.wish.shards c.args.pages
    c.extents_on-extents.result c.extents_on-extents.ensures.greatest))

pub returns-clause-none : goal.returns-clause-none
returns-clause-none c none =
    made_is_none c.args.wish.size c.args.wish.shard_size c.args.wish.shards c.args.pages c.extents_on-extents.result c.extents_on-extents.ensures.greatest
    (λ some. none_made c.for_file.result c.ok.result c.ok.ensures.value none (c.for_file.ensures.valid.1
    (whole_geometry c.args.store.0 c.bytes.ensures.identity c.extents_on-extents.result c.args.pages some c.extents_on-extents.ensures.most (c.if-not-holds.ensures.0 refl).0 c.requires)))
