-- What an opening finds.
use Rattle.std.proofs.Common.{◌≡◌, inl, inr, ⊎_elim, ℕ, ◌≤◌, List, map, Result, Ok, Err, MatchResult, sym, ◌∙◌, ap, subst, arith}
use Rattle.cs_disk.specs.declared.disk.PageDisk.{Ghosts as PageDisk}
use Rattle.cs_disk.specs.Disk.{Elapses, Image, LeavesOnly, MayLeave, State, flushed, seen}
use Rattle.cs_disk.proofs.Crashes.{Leaves-flushed}
use Rattle.cs_disk.proofs.Moments.{started, stays}
use Rattle.cs_disk.specs.Reads.{OnlyReads}
use Rattle.cs_twin.specs.declared.findings.Finding.{Finding}
use Rattle.cs_twin.specs.declared.pairs.Pair.{Pair}
use Rattle.cs_twin.specs.Findings.{finding_in}
use Rattle.cs_twin.specs.Pairs.{Versions}

-- the same of rules, pairs and a disk that are these
pub found_on : {R : Type 0} (version : R → Versions) (r rules : R) (s before : State) (ps pairs : List Pair) (found : List Finding) → r ≡ rules → s ≡ flushed before → ps ≡ pairs
    → found ≡ map (finding_in (version r) (seen s)) ps → found ≡ map (finding_in (version rules) (seen before)) pairs
found_on {R = R} version r rules s before ps pairs found same_rules flush same_pairs is =
    is ∙ ap (λ (z : R). map (finding_in (version z) (seen s)) ps) same_rules ∙ ap (λ (z : State). map (finding_in (version rules) (seen z)) ps) flush ∙ ap (map (finding_in (version rules) (seen before))) same_pairs

-- reads behind a flush leave what might have been left before
pub reads_leave : {D : Type 0} (state : D → State) (moment : D → ℕ) (left_since : D → ℕ → Image → Type 0) (old mid new : D) → LeavesOnly moment left_since old mid (MayLeave (state old)) → state mid ≡ flushed (state old)
    → Elapses (moment mid) (moment new) (left_since mid) (left_since new) (state new) → state new ≡ state mid → LeavesOnly moment left_since old new (MayLeave (state old))
reads_leave state moment left_since old mid new so_far flush time same =
    (stays state moment left_since old mid new (MayLeave (state old)) (record {
      any_moment = so_far;
      now = subst (λ (s : State). (c : Image) → MayLeave s c → MayLeave (state old) c) (sym flush) (Leaves-flushed (MayLeave (state old)) (state old) (λ c left. left));
    }) time same).any_moment

-- and reads before them
pub leaves_behind : {D : Type 0} (disks : PageDisk D) (old mid new : D) → disks.honest old → OnlyReads disks old mid → LeavesOnly disks.moment disks.left_since mid new (MayLeave (disks.state mid))
    → ((t : ℕ) (c : Image) → disks.honest old → t ≤ disks.moment old → MayLeave (disks.state old) c → disks.left_since old t c)
    → LeavesOnly disks.moment disks.left_since old new (MayLeave (disks.state old))
leaves_behind {D = D} disks old mid new h reads more counts_now =
    let same = reads.same h in
    let still = reads.still h in
    let time = reads.time h in
    let was : (c : Image) → MayLeave (disks.state mid) c → MayLeave (disks.state old) c = λ c left. subst (λ (s : State). MayLeave s c) same left in
    record {
      later = omega (arith, still, more.later);
      each = λ c left. was c (more.each c (subst (λ t. disks.left_since new t c) (sym still) left));
      before = λ t c le left. ⊎_elim
          (λ (past : disks.left_since mid t c). ⊎_elim (λ (w : disks.left_since old t c). inl w) (λ (n : MayLeave (disks.state mid) c). inl (counts_now t c h le (was c n))) (time.nothing_else t c le past))
          (λ (now : MayLeave (disks.state mid) c). inr (was c now))
          (more.before t c (omega (arith, le, still)) left);
    }

-- reads alone
pub reads_alone : {D : Type 0} (disks : PageDisk D) (old new : D) → disks.honest old → OnlyReads disks old new → ((c : Image) → disks.left_since old (disks.moment old) c → MayLeave (disks.state old) c)
    → LeavesOnly disks.moment disks.left_since old new (MayLeave (disks.state old))
reads_alone disks old new h reads only_now =
    (stays disks.state disks.moment disks.left_since old old new (MayLeave (disks.state old)) (started disks.state disks.moment disks.left_since old (MayLeave (disks.state old)) (λ c left. left) only_now) (reads.time h) (reads.same h)).any_moment

pub match_weaker : {T E : Type 0} (r : Result T E) (P Q : T → Type 0) (F G : E → Type 0) → ((t : T) → P t → Q t) → ((e : E) → F e → G e) → MatchResult r P F → MatchResult r Q G
match_weaker (Ok t) P Q F G ok err is = ok t is
match_weaker (Err e) P Q F G ok err is = err e is
