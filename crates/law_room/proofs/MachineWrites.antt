-- What was staged before a page, a frame or an event is read as it was.
use Rattle.std.proofs.Common.{◌≡◌, inl, inr, ⊎_elim, ℕ, suc, ◌<◌, ◌≤◌, ◌==◌, Bool, true, false, ◌&&◌, List, [], ◌∷◌, length, if◌then◌else◌, le_refl, le_trans, refl, sym, ap, ◌∙◌, subst, arith}
use Rattle.law_machine.proofs.Quiet.{none_moved, unchanged}
use Rattle.law_machine.proofs.Rules.{apart_rule}
use Rattle.law_machine.proofs.Settling.{settled_alike}
use Rattle.law_machine.specs.Apart.{MergesApart, StagesApart, rooted_apart, settled, takes}
use Rattle.law_machine.specs.Append.{AppendAllBy, AppendBy, chunk_frames, stage_pages}
use Rattle.law_machine.specs.Cut.{Cut, page_in}
use Rattle.law_machine.specs.Device.{Page, Shape}
use Rattle.law_machine.specs.Element.{Locator, Run, Write, writes_of}
use Rattle.law_machine.specs.Events.{Does, mark}
use Rattle.law_machine.specs.Extents.{ForMerge, ForMove, ForPut, ForRun, Purpose}
use Rattle.law_machine.specs.Formats.{ChunkFrame, Formats, RunFrame}
use Rattle.law_machine.specs.Machine.{StagePage, World, happens}
use Rattle.law_machine.specs.Merges.{MergesPart, deletions_go}
use Rattle.law_machine.specs.State.{Abandon, Abandoned, Absent, Accepted, Begin, BeginSweep, Begun, Delete, End, Ended, Event, Found, Get, Issue, Issued, MoveOne, Moved, NoneLive, NotYet, Nothing, Persistent, Put, Refused, Reply, Retire, Retired, Settle, Stage, Staged, State, Sweeping, Unchanged}
use Rattle.law_machine.specs.Step.{Step}

-- v comes after w: a set without later writes has the same pages of both
pub record GoesOn (w v : World) : Type 0 where
  pub pages : (X : Cut) (opened : ℕ → Page) → ((n : ℕ) → w.written < n → X.writes n ≡ false) → (p : ℕ)
      → page_in X opened (writes_of v.elements) p ≡ page_in X opened (writes_of w.elements) p
  pub written : w.written ≤ v.written

on_here : (w v : World) → v ≡ w → GoesOn w v
on_here w v is = subst (λ (u : World). GoesOn w u) (sym is) (record {
  pages = λ X opened off p. refl;
  written = le_refl _;
})

on_both : (w v u : World) → GoesOn w v → GoesOn v u → GoesOn w u
on_both w v u a b = record {
  pages = λ X opened off p. b.pages X opened (λ n lt. off n (let up : w.written ≤ v.written = a.written in omega arith)) p
      ∙ a.pages X opened off p;
  written = le_trans a.written b.written;
}

-- the same writes, and the same last number
on_writes : (w v : World) → writes_of v.elements ≡ writes_of w.elements → v.written ≡ w.written → GoesOn w v
on_writes w v writes number = record {
  pages = λ X opened off p. ap (λ (ws : List Write). page_in X opened ws p) writes;
  written = (let same : v.written ≡ w.written = number in omega arith);
}

module _ (S : Shape) where
  on_page : (w : World) (a : ℕ) (b : Page) → GoesOn w (happens S w (StagePage a b))
  on_page w a b = record {
    pages = λ X opened off p. skip (a == p) (X.writes (suc w.written)) b (page_in X opened (writes_of w.elements) p)
        (off (suc w.written) (omega arith));
    written = (let up : w.written ≤ suc w.written = omega arith in up);
  }
    where
      skip : (x y : Bool) (b c : Page) → y ≡ false → (if x && y then b else c) ≡ c
      skip true true b c wrong = absurd (let no : true ≡ false = wrong in cc)
      skip true false b c off = refl
      skip false y b c off = refl

  on_pages : (bs : List Page) (w : World) (e i : ℕ) → GoesOn w (stage_pages S w e i bs)
  on_pages [] w e i = on_here w w refl
  on_pages (b ∷ bs) w e i = on_both w (happens S w (StagePage (S.address e i) b))
      (stage_pages S (happens S w (StagePage (S.address e i) b)) e (suc i) bs) (on_page w (S.address e i) b)
      (on_pages bs (happens S w (StagePage (S.address e i) b)) e (suc i))

  on_append : (apart : Bool) (w v : World) (purpose : Purpose) (bs : List Page) (l : Locator)
      → AppendBy S apart w purpose bs l v → GoesOn w v
  on_append apart w v purpose bs l a =
      let pages = on_pages bs w a.extent (w.extents.pointer a.extent) in
      subst (λ (u : World). GoesOn w u) (sym a.after) (record { pages = pages.pages; written = pages.written })

  on_appends : (apart : Bool) (w v : World) (purpose : Purpose) (frames : List (List Page)) (ls : List Locator)
      → AppendAllBy S apart w purpose frames ls v → GoesOn w v
  on_appends apart w v purpose [] [] all = on_here w v all
  on_appends apart w v purpose (bs ∷ frames) (l ∷ ls) all = on_both w all.0 v
      (on_append apart w all.0 purpose bs l all.1) (on_appends apart all.0 v purpose frames ls all.2)
  on_appends apart w v purpose [] (l ∷ ls) all = absurd all
  on_appends apart w v purpose (bs ∷ frames) [] all = absurd all

module _ (S : Shape) (F : Formats) where
  on_part : (s mid : State) (runs : List Run) (k : ℕ) (go : Bool) (purpose : Purpose)
      → MergesPart S F true go s purpose k mid runs → GoesOn s.world mid.world
  on_part s mid runs k go purpose (inl (entries, l, full, run, (v, a, same), runs_is)) =
      subst (λ (x : State). GoesOn s.world x.world) (sym same)
      (on_append S true s.world v purpose (F.frame RunFrame (F.run entries)) l a)
  on_part s mid runs k go purpose (inr (none, same, runs_is)) = on_here s.world mid.world
      (ap (λ (x : State). x.world) same)

  pub on_merge : (s mid : State) (runs : List Run) → MergesApart S F s mid runs → GoesOn s.world mid.world
  on_merge s mid runs (inl m) = on_part s mid runs (takes S s) (deletions_go S s (takes S s)) ForRun m
  on_merge s mid runs (inr m) = on_part s mid runs (length s.runs) (deletions_go S s (length s.runs)) ForMerge m.1

  on_stage : (s t : State) → StagesApart S F s t → GoesOn s.world t.world
  on_stage s t (mid, runs, m, is) = on_both s.world mid.world t.world (on_merge s mid runs m)
      (subst (λ (x : State). GoesOn mid.world x.world) (sym is)
      (on_writes mid.world (rooted_apart S F mid runs).world refl refl))

  on_does : (s t : State) (apart : S.apart ≡ true) (event : Event) (reply : Reply) → Does S F s event reply t
      → GoesOn s.world t.world
  on_does s t apart (Put id bytes) (Accepted n) (cs, ls, mid, cut, (v, all, same), number, done) =
      subst (λ (x : State). GoesOn s.world x.world) (sym done)
      (subst (λ (x : State). GoesOn s.world x.world) (sym same)
      (on_appends S S.apart s.world v ForPut (chunk_frames S F cs) ls all))
  on_does s t apart (Get id) (Found bytes) d = on_here s.world t.world (ap (λ (x : State). x.world) d.1)
  on_does s t apart (Get id) Absent d = on_here s.world t.world (ap (λ (x : State). x.world) d.1)
  on_does s t apart (Delete id) (Accepted n) d = on_here s.world t.world (ap (λ (x : State). x.world) d.2)
  on_does s t apart (Delete id) Absent d = on_here s.world t.world (ap (λ (x : State). x.world) d.1)
  on_does s t apart Stage Unchanged d = on_here s.world t.world (ap (λ (x : State). x.world) (unchanged S F s t d))
  on_does s t apart Stage (Staged v) d = on_stage s t (apart_rule _ _ S.apart apart d).2
  on_does s t apart Begin Nothing d = on_here s.world t.world (ap (λ (x : State). x.world) d.2)
  on_does s t apart Begin (Begun members) d = subst (λ (x : State). GoesOn s.world x.world) (sym d.6)
      (on_writes s.world (record s.world { round = d.1 }) refl refl)
  on_does s t apart Issue (Issued m) d = on_here s.world t.world (ap (λ (x : State). x.world) d.3)
  on_does s t apart End (Ended n) d = subst (λ (x : State). GoesOn s.world x.world) (sym d.2)
      (on_writes s.world (record s.world { persistent = s.world.round }) refl refl)
  on_does s t apart (BeginSweep e) Sweeping d = let o = apart_rule _ _ S.apart apart d in
      subst (λ (x : State). GoesOn s.world x.world) (sym o.5)
      (record { pages = λ X opened off p. refl; written = le_refl _ })
  on_does s t apart (MoveOne e) NoneLive d = on_here s.world t.world (ap (λ (x : State). x.world) (none_moved S F s t e d))
  on_does s t apart (MoveOne e) (Moved id k) d = let o = apart_rule _ _ S.apart apart d in
      subst (λ (x : State). GoesOn s.world x.world) (sym o.9)
      (subst (λ (x : State). GoesOn s.world x.world) (sym o.8.2)
      (on_append S true s.world o.8.0 ForMove (F.frame ChunkFrame o.2) o.1 o.8.1))
  on_does s t apart (Retire e) (Retired v) d = let o = apart_rule _ _ S.apart apart d in
      settled_alike (λ (x : State). GoesOn x.world t.world → GoesOn s.world t.world) (mark s e false)
      (λ g. record { pages = g.pages; written = g.written }) (on_stage (settled (mark s e false)) t o.3)
  on_does s t apart (Abandon e) Abandoned d = subst (λ (x : State). GoesOn s.world x.world) (sym d.1)
      (on_writes s.world (mark s e false).world refl refl)
  on_does s t apart (Settle n) Persistent d = on_here s.world t.world (ap (λ (x : State). x.world) d.4)
  on_does s t apart (Settle n) (NotYet f) d = on_here s.world t.world (ap (λ (x : State). x.world) d.2)
  on_does s t apart event reply d = absurd d

  pub on_step : (s t : State) → S.apart ≡ true → (event : Event) (reply : Reply) → Step S F s event reply t
      → GoesOn s.world t.world
  on_step s t apart Issue (Refused f) (inl same) = on_here s.world t.world (ap (λ (x : State). x.world) same.1)
  on_step s t apart Issue (Refused f) (inr fault) = ⊎_elim
      (λ (is : t ≡ record s { halted = true }). on_here s.world t.world (ap (λ (x : State). x.world) is))
      (λ w. on_here s.world t.world (ap (λ (x : State). x.world) w.4)) fault.2
  on_step s t apart End (Refused f) (inl same) = on_here s.world t.world (ap (λ (x : State). x.world) same.1)
  on_step s t apart End (Refused f) (inr fault) = on_here s.world t.world (ap (λ (x : State). x.world) fault.2)
  on_step s t apart event (Refused f) step = on_here s.world t.world (ap (λ (x : State). x.world) step.1)
  on_step s t apart event reply step = on_does s t apart event reply step.1
