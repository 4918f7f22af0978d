-- What a disk in pairs shows as it is made and as it is opened.
use Rattle.std.proofs.Common.{◌≡◌, ◌∙◌, ◌⊎◌, inr, ⊎_elim, ℕ, ◌≤◌, List, [], Option, Result, Ok, Err, IfErr, IfOk, MatchResult, ap, subst}
use Rattle.cs_disk.specs.Disk.{Image, LeavesOnly, MayLeave, State, flushed, seen}
use Rattle.cs_disk.proofs.Crashes.{MayLeave-flushed, seen_MayLeave}
use Rattle.cs_twin.specs.declared.pairs.Pair.{Pair}
use Rattle.cs_frame.specs.Geometries.{Dimensions}
use Rattle.cs_twin.specs.Pairs.{Shows, Versions, shown, shown_state}
use Rattle.cs_mount.specs.Showing.{ShowsOn, shown_on}
use Rattle.cs_mount.specs.StorePairs.{dimensions_on, pairs_where, store_version}

-- behind a flush, by rules and pairs that are these
pub shown_behind : {R : Type 0} (version : R → Versions) (r rules : R) (s before : State) (ps pairs : List Pair) → r ≡ rules → ps ≡ pairs → s ≡ flushed before
    → shown_state (version r) ps s ≡ record { durable = shown (version rules) pairs (seen before); volatile = [] }
shown_behind {R = R} version r rules s before ps pairs same_rules same_pairs flush =
    ap (λ (z : R). shown_state (version z) ps s) same_rules ∙ ap (λ (z : List Pair). shown_state (version rules) z s) same_pairs ∙ ap (shown_state (version rules) pairs) flush

-- what shows of what a crash leaves of it, by those
pub left_behind : {R : Type 0} (version : R → Versions) (r rules : R) (ps pairs : List Pair) (P Q : Image → Type 0) (left : Image) → r ≡ rules → ps ≡ pairs → ((image : Image) → P image → Q image)
    → Shows (version r) ps P left → Shows (version rules) pairs Q left
left_behind {R = R} version r rules ps pairs P Q left same_rules same_pairs more is =
    (is.0, more is.0 is.1, is.2 ∙ ap (λ (z : R). shown (version z) ps is.0) same_rules ∙ ap (λ (z : List Pair). shown (version rules) z is.0) same_pairs)

-- Calls on the disk as it shows, each of which leaves what a crash might have left before: what a crash meanwhile
-- leaves shows of what one before the opening might have left.
pub shows_later : {D : Type 0} (moment : D → ℕ) (left_since : D → ℕ → Image → Type 0) (V : Versions) (pairs : List Pair) (s : State) (old new : D) (t : ℕ) (shows : State) (left : Image)
    → shows ≡ record { durable = shown V pairs (seen s); volatile = [] } → t ≤ moment old
    → ((c : Image) → left_since old t c → Shows V pairs (MayLeave s) c) → LeavesOnly moment left_since old new (MayLeave shows) → left_since new t left → Shows V pairs (MayLeave s) left
shows_later moment left_since V pairs s old new t shows left is le before calls past =
    ⊎_elim (λ (was : left_since old t left). before left was)
    (λ (now : MayLeave shows left). (seen s, seen_MayLeave s, MayLeave-flushed (record { durable = shown V pairs (seen s); volatile = [] }) left (subst (λ (z : State). MayLeave z left) is now)))
    (calls.before t left le past)

-- the same for a run that began earlier, of which a crash might have left some images before
pub shows_before : {D : Type 0} (moment : D → ℕ) (left_since : D → ℕ → Image → Type 0) (V : Versions) (pairs : List Pair) (s : State) (past : Image → Type 0) (old new : D) (t : ℕ) (shows : State) (left : Image)
    → shows ≡ record { durable = shown V pairs (seen s); volatile = [] } → t ≤ moment old
    → ((c : Image) → left_since old t c → Shows V pairs (λ image. past image ⊎ MayLeave s image) c) → LeavesOnly moment left_since old new (MayLeave shows) → left_since new t left
    → Shows V pairs (λ image. past image ⊎ MayLeave s image) left
shows_before moment left_since V pairs s past old new t shows left is le before calls since =
    ⊎_elim (λ (was : left_since old t left). before left was)
    (λ (now : MayLeave shows left). (seen s, inr (seen_MayLeave s), MayLeave-flushed (record { durable = shown V pairs (seen s); volatile = [] }) left (subst (λ (z : State). MayLeave z left) is now)))
    (calls.before t left le since)

-- ---- by the store that is on the device

pub shown_as_on : (pages : ℕ) (image : Image) (g : Option Dimensions) (items : List Pair) (s : State) → g ≡ dimensions_on pages image → items ≡ pairs_where g → s ≡ record { durable = shown (store_version g) items image; volatile = [] }
    → s ≡ record { durable = shown_on pages image; volatile = [] }
shown_as_on pages image g items s found pairs is =
    is ∙ ap (λ (l : List Pair). record { durable = shown (store_version g) l image; volatile = [] }) pairs
    ∙ ap (λ (o : Option Dimensions). record { durable = shown (store_version o) (pairs_where o) image; volatile = [] }) found

pub shows_as_on : (pages : ℕ) (image : Image) (g : Option Dimensions) (items : List Pair) (P : Image → Type 0) (left : Image) → g ≡ dimensions_on pages image → items ≡ pairs_where g → Shows (store_version g) items P left
    → ShowsOn pages image P left
shows_as_on pages image g items P left found pairs is =
    (is.0, is.1, is.2 ∙ ap (λ (l : List Pair). shown (store_version g) l is.0) pairs ∙ ap (λ (o : Option Dimensions). shown (store_version o) (pairs_where o) is.0) found)

-- ---- facts of what was answered

pub ok_three : {T E : Type 0} (r : Result T E) (P Q R S : T → Type 0) → ((t : T) → P t → Q t → R t → S t) → IfOk r P → IfOk r Q → IfOk r R → IfOk r S
ok_three (Ok t) P Q R S f p q x = f t p q x
ok_three (Err e) P Q R S f p q x = tt

pub ok_of : {T E : Type 0} (r : Result T E) (P : T → Type 0) (F : E → Type 0) → MatchResult r P F → IfOk r P
ok_of (Ok t) P F is = is
ok_of (Err e) P F is = tt

pub err_weaker : {T E : Type 0} (r : Result T E) (F G : E → Type 0) → ((e : E) → F e → G e) → IfErr r F → IfErr r G
err_weaker (Ok t) F G more is = tt
err_weaker (Err e) F G more is = more e is

-- a fact under a premise, where the answer is a value
pub ok_if : {T E : Type 0} (r : Result T E) (H : Type 0) (P : T → Type 0) → (H → IfOk r P) → IfOk r (λ t. H → P t)
ok_if (Ok t) H P is = is
ok_if (Err e) H P is = tt
