-- Places of jobs, and what the jobs gave.
use Rattle.std.proofs.Common.{◌≡◌, ◌<◌, ℕ, zero, suc, All, List, [], ◌∷◌, ◌++◌, ap, append_assoc, arith, drop, get_or, length, map, refl, subst, sym, take}
use Rattle.std.proofs.lemmas.List.{append-nil, drop_all, length-map, map-append, take_all}
use Rattle.std.proofs.lemmas.List.Elements.{All-cons, All-nil}
use Rattle.cs_node.specs.declared.jobs.Slot.{Slot}
use Rattle.cs_node.specs.declared.jobs.Slot.TheVariants.{Gave, Job}
use Rattle.cs_node.specs.Jobs.{AllGive, Does, HasGiven}

-- one more of the slots' values
pub given_more : {J X : Type 0} (ps : List (Slot J X)) (outs more : List X) (p : Slot J X) (rest : List (Slot J X)) (out : X) → ps ≡ map Gave outs ++ (p ∷ rest) → p ≡ Gave out → more ≡ outs ++ out ∷ [] → ps ≡ map Gave more ++ rest
given_more {J} {X} ps outs more p rest out so_far gave pushed = rw (so_far, gave, pushed, map-append {B = Slot J X} Gave outs (out ∷ [])) (sym (append_assoc (map {B = Slot J X} Gave outs) (Gave out ∷ []) rest))

-- the slots, once all of them were written
pub written : {A : Type 0} (xs ys : List A) (len : ℕ) → len ≡ length xs → length ys ≡ length xs → take len (ys ++ drop (length ys) xs) ≡ ys
written xs ys len is same = rw (drop_all (length ys) xs (omega arith), append-nil ys) (take_all len ys (omega arith))

module _ {J X : Type 0} (gives : J → X → Type 0) where
  -- each job was done
  abbrev pub AllDone : List J → List (Slot J X) → Type 0
  AllDone jobs new = (k : ℕ) (d : Slot J X) → k < length jobs → Does gives (get_or (map Job jobs) k d) (get_or new k d)

  done_rest : (j : J) (jobs : List J) (p : Slot J X) (new : List (Slot J X)) → AllDone (j ∷ jobs) (p ∷ new) → AllDone jobs new
  done_rest j jobs p new done k d within = done (suc k) d (omega arith)

  pub gave_all : (jobs : List J) (new : List (Slot J X)) → length new ≡ length jobs → AllDone jobs new → All HasGiven new
  gave_all jobs [] same done = All-nil HasGiven
  gave_all [] (p ∷ new) same done = absurd (omega arith)
  gave_all (j ∷ jobs) (p ∷ new) same done =
      let one = done 0 p (omega arith) j refl in
      All-cons HasGiven p new (one.0, one.1) (gave_all jobs new (omega arith) (done_rest j jobs p new done))

  first_gives : (j : J) (x out : X) (p q : Slot J X) → p ≡ Gave x → q ≡ Gave out → p ≡ q → gives j out → gives j x
  first_gives j x out p q there here same g = let e : out ≡ x = cc in subst (gives j) e g

  gives_each : (jobs : List J) (outs : List X) → length outs ≡ length jobs → AllDone jobs (map Gave outs) → AllGive gives jobs outs
  gives_each [] outs same done k job value within = absurd (omega arith)
  gives_each (j ∷ jobs) [] same done k job value within = absurd (omega arith)
  gives_each (j ∷ jobs) (x ∷ outs) same done zero job value within = let one = done 0 (Gave x) (omega arith) j refl in first_gives j x one.0 (Gave x) (Gave one.0) refl refl one.1 one.2
  gives_each (j ∷ jobs) (x ∷ outs) same done (suc k) job value within = gives_each jobs outs (omega arith) (done_rest j jobs (Gave x) (map Gave outs) done) k job value (omega arith)

  pub all_done : (jobs : List J) (old new : List (Slot J X)) → old ≡ map Job jobs → ((k : ℕ) (d : Slot J X) → k < length old → Does gives (get_or old k d) (get_or new k d)) → AllDone jobs new
  all_done jobs old new is each k d within =
      subst (λ (l : List (Slot J X)). Does gives (get_or l k d) (get_or new k d)) is (each k d (omega (arith, ap length is, length-map {B = Slot J X} jobs Job)))

  pub gives_all : (jobs : List J) (new : List (Slot J X)) (outs : List X) → length new ≡ length jobs → AllDone jobs new → new ≡ map Gave outs → AllGive gives jobs outs
  gives_all jobs new outs same done is =
      gives_each jobs outs (omega (arith, ap length is, length-map {B = Slot J X} outs Gave)) (subst (λ (l : List (Slot J X)). AllDone jobs l) is done)
