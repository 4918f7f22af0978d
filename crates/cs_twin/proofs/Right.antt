-- What is noted stays right.
use Rattle.std.proofs.Common.{◌≡◌, ◌≢◌, ◌⊎◌, if◌then◌else◌, Bool, true, false, inl, inr, ⊎_elim, ℕ, zero, suc, ◌<◌, List, [], ◌∷◌, ◌++◌, Some, slice_get, length, map, refl, sym, ◌∙◌, ap, subst}
use Rattle.std.proofs.lemmas.Option.{same_Some}
use Rattle.cs_disk.proofs.Images.{applied_push, page-applied, page_other}
use Rattle.cs_disk.specs.Disk.{Image, IsWhole, State, Write, flushed, page, seen, written}
use Rattle.cs_disk.proofs.Crashes.{seen_MayLeave}
use Rattle.cs_twin.specs.declared.notes.Notes.{Notes}
use Rattle.cs_twin.specs.declared.notes.Trust.{Trust}
use Rattle.cs_twin.specs.declared.notes.Trust.TheVariants.{Doubted, Read, Unfenced, Unread}
use Rattle.cs_twin.specs.declared.pairs.Pair.{Pair}
use Rattle.cs_twin.specs.Fences.{IsGuarded}
use Rattle.cs_twin.specs.Findings.{are_known}
use Rattle.cs_twin.specs.Noted.{AreNotes, AreRight, IsRead, NoneIsWritten}
use Rattle.cs_twin.specs.Pairs.{ArePairs, AreNoOlder, Versions, half, held_in}
use Rattle.cs_twin.proofs.Fencing.{fenced_found, fenced_left, found_fenced}
use Rattle.cs_twin.proofs.Roles.{IsOwn}
use Rattle.cs_twin.proofs.Shown.{held_same, latest_none}

-- an element of a list with one more
pub pushed_at : {A : Type 0} (xs : List A) (y : A) (i : ℕ) (x : A) → slice_get (xs ++ y ∷ []) i ≡ Some x → (slice_get xs i ≡ Some x) ⊎ (y ≡ x)
pushed_at [] y zero x at = inr (same_Some y x at)
pushed_at [] y (suc i) x at = cc
pushed_at (z ∷ xs) y zero x at = inl at
pushed_at (z ∷ xs) y (suc i) x at = pushed_at xs y i x at

-- what two functions that agree make of a list
pub same_map : {A B : Type 0} (f g : A → B) (xs : List A) → ((j : ℕ) (x : A) → slice_get xs j ≡ Some x → f x ≡ g x) → map f xs ≡ map g xs
same_map f g [] same = refl
same_map f g (x ∷ xs) same = ap (λ b. b ∷ map f xs) (same 0 x refl) ∙ ap (λ l. g x ∷ l) (same_map f g xs (λ j y at. same (suc j) y at))

pub still_noted : (pairs : List Pair) (notes new : Notes) (n : ℕ) → new ≡ record notes { refused = n } → AreNotes pairs notes → AreNotes pairs new
still_noted pairs notes new n is are = subst (λ (z : Notes). AreNotes pairs z) (sym is) (record { durable = are.durable; newest = are.newest })

pub is_read : (t : Trust) → t ≡ Read → IsRead t
is_read t e = subst IsRead (sym e) tt

pub undoubted : (t : Trust) → t ≡ Read → t ≢ Doubted
undoubted t e doubt = cc

module _ (V : Versions) (pairs : List Pair) where
  pub none_older : (s : State) → NoneIsWritten pairs s → AreNoOlder V pairs s
  none_older s none = record {
    each = λ k i x w at at_i twin goes. absurd (none k i x w twin at at_i goes);
    alike = λ k i j x v w b c at at_i at_j there goes hidden. absurd (none k i x v b at at_i there);
  }

  -- a disk that holds what it held
  pub right_on : (notes : Notes) (s new : State) → new ≡ s → AreRight V pairs notes s → AreRight V pairs notes new
  right_on notes s new same right = subst (λ (z : State). AreRight V pairs notes z) (sym same) right

  -- one call more was refused
  pub still_right : (notes new : Notes) (s : State) (n : ℕ) → new ≡ record notes { refused = n } → AreRight V pairs notes s → AreRight V pairs new s
  still_right notes new s n is right = subst (λ (z : Notes). AreRight V pairs z s) (sym is) (record {
    newer = right.newer;
    durable = right.durable;
    newest = right.newest;
    unwritten = right.unwritten;
    unfenced = right.unfenced;
    damaged = right.damaged;
    fenced = right.fenced;
    whole = right.whole;
    guarded = right.guarded;
  })

  -- where nothing was read, and no pair written
  pub unread_right : (new : Notes) (now : State) → new.trust ≡ Unread → NoneIsWritten pairs now → AreRight V pairs new now
  unread_right new now trust none = record {
    newer = none_older now none;
    durable = λ read. absurd (subst IsRead trust read);
    newest = λ read. absurd (subst IsRead trust read);
    unwritten = λ _. none;
    unfenced = λ _. none;
    damaged = λ is. cc;
    fenced = λ is. cc;
    whole = λ _ k i x w twin at at_i goes. absurd (none k i x w twin at at_i goes);
    guarded = λ k i x w twin other at at_i goes some. absurd (none k i x w twin at at_i goes);
  }

  -- where a write is in doubt
  pub in_doubt : (new : Notes) (now : State) → new.trust ≡ Doubted → AreNoOlder V pairs now → IsGuarded V pairs now → AreRight V pairs new now
  in_doubt new now trust newer guarded = record {
    newer = newer;
    durable = λ read. absurd (subst IsRead trust read);
    newest = λ read. absurd (subst IsRead trust read);
    unwritten = λ is. cc;
    unfenced = λ is. cc;
    damaged = λ is. cc;
    fenced = λ is. cc;
    whole = λ sure. absurd (sure trust);
    guarded = guarded;
  }

  -- where no pair was written, what the disk reads as holds what is durable there
  unwritten_held : (n : ℕ) (s : State) (k : ℕ) (x : Pair) → ArePairs pairs n → length s.durable ≡ n → NoneIsWritten pairs s → slice_get pairs k ≡ Some x → held_in V (seen s) x ≡ held_in V s.durable x
  unwritten_held n s k x are sized none at = held_same V (seen s) s.durable x (λ twin.
      page-applied s.durable s.volatile (half x twin) (subst (λ m. half x twin < m) (sym sized) (are.inside k x twin at))
      ∙ latest_none s.volatile (half x twin) (page s.durable (half x twin)) (λ i w at_i goes. none k i x w twin at at_i goes))

  -- what the disk reads as has of the pairs what is durable
  pub unwritten_page : (s : State) → ArePairs pairs (length s.durable) → NoneIsWritten pairs s → (k : ℕ) (x : Pair) (twin : Bool) → slice_get pairs k ≡ Some x → page (seen s) (half x twin) ≡ page s.durable (half x twin)
  unwritten_page s are none k x twin at =
      page-applied s.durable s.volatile (half x twin) (are.inside k x twin at)
      ∙ latest_none s.volatile (half x twin) (page s.durable (half x twin)) (λ i w at_i goes. none k i x w twin at at_i goes)

  -- the notes were read
  pub read_right : (n : ℕ) (notes new : Notes) (s now : State) (known : Bool) → ArePairs pairs n → length s.durable ≡ n → IsWhole s → now ≡ s → notes.trust ≡ Unread → AreRight V pairs notes s
      → known ≡ are_known V (seen s) pairs → new.newest.items ≡ map (held_in V (seen s)) pairs → new.durable.items ≡ new.newest.items → new.trust ≡ (if known then Read else Unfenced) → AreRight V pairs new now
  read_right n notes new s now known are sized whole same unread right is newest durable trust = right_on new s now same (by_known known refl)
    where
      none : NoneIsWritten pairs s
      none = right.unwritten unread

      on_disk : ArePairs pairs (length s.durable)
      on_disk = subst (λ m. ArePairs pairs m) (sym sized) are

      same_held : new.durable.items ≡ map (held_in V s.durable) pairs
      same_held = durable ∙ newest ∙ same_map (held_in V (seen s)) (held_in V s.durable) pairs (λ k x at. unwritten_held n s k x are sized none at)

      page_size : (k : ℕ) (x : Pair) (twin : Bool) → slice_get pairs k ≡ Some x → length (page (seen s) (half x twin)) ≡ 4096
      page_size k x twin at = ap (λ (l : List ℕ). length l) (unwritten_page s on_disk none k x twin at) ∙ whole.durable (half x twin) [] (on_disk.inside k x twin at)

      by_known : (b : Bool) → known ≡ b → AreRight V pairs new s
      by_known true is_true =
          let is_on : new.trust ≡ Read = trust ∙ ap (λ c. if c then Read else Unfenced) is_true in
          let seen_fenced = found_fenced V (seen s) pairs page_size (sym is ∙ is_true) in
          record {
            newer = right.newer;
            durable = λ _. same_held;
            newest = λ _. newest;
            unwritten = λ e. cc;
            unfenced = λ e. cc;
            damaged = λ e. cc;
            fenced = λ _ k x twin at hidden. sym (unwritten_page s on_disk none k x twin at) ∙ seen_fenced k x twin at (ap (V x.page) (unwritten_page s on_disk none k x twin at) ∙ hidden);
            whole = λ _ k i x w twin at at_i goes. absurd (none k i x w twin at at_i goes);
            guarded = right.guarded;
          }
      by_known false is_false =
          let is_on : new.trust ≡ Unfenced = trust ∙ ap (λ c. if c then Read else Unfenced) is_false in
          record {
            newer = right.newer;
            durable = λ _. same_held;
            newest = λ _. newest;
            unwritten = λ e. cc;
            unfenced = λ _. none;
            damaged = λ _ fenced. let clash : false ≡ true = sym is_false ∙ is ∙ fenced_found V (seen s) pairs fenced in cc;
            fenced = λ e. cc;
            whole = λ _ k i x w twin at at_i goes. absurd (none k i x w twin at at_i goes);
            guarded = right.guarded;
          }

  -- the disk was flushed
  pub flushed_right : (notes new : Notes) (s now : State) → now ≡ flushed s → AreRight V pairs notes s → new.durable.items ≡ notes.newest.items → new.newest.items ≡ notes.newest.items
      → new.trust ≡ notes.trust → AreRight V pairs new now
  flushed_right notes new s now is right durable newest trust = right_on new (flushed s) now is (record {
    newer = none_older (flushed s) settled;
    durable = λ read. durable ∙ right.newest (subst IsRead trust read);
    newest = λ read. newest ∙ right.newest (subst IsRead trust read);
    unwritten = λ _. settled;
    unfenced = λ _. settled;
    damaged = λ unfenced. right.damaged (sym trust ∙ unfenced);
    fenced = λ read. fenced_left V pairs s (seen s) right.newer (right.fenced (sym trust ∙ read)) (seen_MayLeave s);
    whole = λ _ k i x w twin at at_i goes. absurd (settled k i x w twin at at_i goes);
    guarded = λ k i x w twin other at at_i goes some. absurd (settled k i x w twin at at_i goes);
  })
    where
      settled : NoneIsWritten pairs (flushed s)
      settled k i x w twin at at_i goes = cc

  none_volatile : (now : State) → now.volatile ≡ [] → NoneIsWritten pairs now
  none_volatile now none k i x w twin at at_i goes = nothing i w (ap (λ (l : List Write). slice_get l i) (sym none) ∙ at_i)
    where
      nothing : (i : ℕ) (w : Write) → slice_get {X = Write} [] i ≡ Some w → ⊥
      nothing i w at = cc

  -- a crash left nothing volatile
  pub forgot_right : (notes new : Notes) (now : State) → now.volatile ≡ [] → new.trust ≡ Unread → AreRight V pairs new now
  forgot_right notes new now none trust = unread_right new now trust (none_volatile now none)

  -- ---- a write of another page

  module _ (notes : Notes) (s : State) (p : ℕ) (bytes : List ℕ) (own : IsOwn pairs p) (right : AreRight V pairs notes s) where
    own_held : (k : ℕ) (x : Pair) → slice_get pairs k ≡ Some x → held_in V (seen s) x ≡ held_in V (seen (written s p bytes)) x
    own_held k x at = held_same V (seen s) (seen (written s p bytes)) x (λ twin.
        sym (page_other (seen s) p (half x twin) bytes (λ e. own k x twin at (sym e)))
        ∙ ap (λ (image : Image). page image (half x twin)) (sym (applied_push s.durable s.volatile (p, bytes))))

    -- a write to a pair is one of those before
    own_old : (k i : ℕ) (x : Pair) (w : Write) (twin : Bool) → slice_get pairs k ≡ Some x → slice_get (s.volatile ++ (p, bytes) ∷ []) i ≡ Some w → w.0 ≡ half x twin → slice_get s.volatile i ≡ Some w
    own_old k i x w twin at at_i goes = ⊎_elim
        (λ (old : slice_get s.volatile i ≡ Some w). old)
        (λ (new : (p, bytes) ≡ w). absurd (own k x twin at (ap (λ (v : Write). v.0) new ∙ goes)))
        (pushed_at s.volatile (p, bytes) i w at_i)

    own_page : (k : ℕ) (x : Pair) (twin : Bool) → slice_get pairs k ≡ Some x → page (seen (written s p bytes)) (half x twin) ≡ page (seen s) (half x twin)
    own_page k x twin at =
        ap (λ (image : Image). page image (half x twin)) (applied_push s.durable s.volatile (p, bytes)) ∙ page_other (seen s) p (half x twin) bytes (λ e. own k x twin at (sym e))

    own_written_right : AreRight V pairs notes (written s p bytes)
    own_written_right = record {
      newer = record {
        each = λ k i x w at at_i twin goes. right.newer.each k i x w at (own_old k i x w twin at at_i goes) twin goes;
        alike = λ k i j x v w b c at at_i at_j there goes. right.newer.alike k i j x v w b c at (own_old k i x v b at at_i there) (own_old k j x w c at at_j goes) there goes;
      };
      durable = right.durable;
      newest = λ read. right.newest read ∙ same_map (held_in V (seen s)) (held_in V (seen (written s p bytes))) pairs (λ k x at. own_held k x at);
      unwritten = λ unread k i x w twin at at_i goes. right.unwritten unread k i x w twin at (own_old k i x w twin at at_i goes) goes;
      unfenced = λ is k i x w twin at at_i goes. right.unfenced is k i x w twin at (own_old k i x w twin at at_i goes) goes;
      damaged = λ is fenced. right.damaged is (λ k x twin at hidden. sym (own_page k x twin at) ∙ fenced k x twin at (ap (V x.page) (own_page k x twin at) ∙ hidden));
      fenced = right.fenced;
      whole = λ sure k i x w twin at at_i goes. right.whole sure k i x w twin at (own_old k i x w twin at at_i goes) goes;
      guarded = λ k i x w twin other at at_i goes. right.guarded k i x w twin other at (own_old k i x w twin at at_i goes) goes;
    }

    pub own_right : (now : State) → (now ≡ s) ⊎ (now ≡ written s p bytes) → AreRight V pairs notes now
    own_right now (inl same) = right_on notes s now same right
    own_right now (inr is) = subst (λ (z : State). AreRight V pairs notes z) (sym is) own_written_right
