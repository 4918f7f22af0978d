-- The extents, and where a frame goes.
use Rattle.std.specs.Prelude.{◌≡◌, ◌≢◌, ◌⊎◌, ◌+◌, ◌<◌, ◌≤◌, ◌∷◌, ◌==◌, ◌&&◌, ℕ, zero, suc, Bool, true, false, not, nat_lt, List, Option, Some, None, [], if◌then◌else◌}
use Rattle.law_machine.specs.Device.{Shape}
use Rattle.law_machine.specs.Lists.{with}

-- the extents of a store
pub record Extents : Type 0 where
  -- of each extent: how many of its pages are given, its generation, and the version of the root that its last reset
  -- since the store was opened goes with, 0 for none
  pub pointer : ℕ → ℕ
  pub generation : ℕ → ℕ
  pub reset : ℕ → ℕ
  -- the extent that frames are appended to, if there is one, and the extents that are being swept
  pub open_extent : Option ℕ
  pub swept : ℕ → Bool
  -- where chunks and runs lie apart, else nothing is noted of it: whether an extent holds runs, and how many of its pages
  -- were given as the store was opened, 0 once it was reset
  pub of_runs : ℕ → Bool
  pub found : ℕ → ℕ
  -- so too: the extent that the sweep opened, if it has, and the one to which the last copy of any sweep went
  pub fresh : Option ℕ
  pub last : Option ℕ

-- what a frame is appended for: a chunk of a put, a run that a Stage writes, a chunk that is moved and the run of a
-- Retire, or one run of all
pub data Purpose : Type 0 where
  ForPut ForRun ForMove ForMerge : Purpose

-- how many extents must stay empty where one is opened for this
abbrev pub spare : Purpose → ℕ
spare ForPut = 2
spare ForRun = 1
spare ForMove = 0
spare ForMerge = 0

-- how many of the extents below n are empty
abbrev pub empties : (ℕ → ℕ) → ℕ → ℕ
empties pointer zero = 0
empties pointer (suc n) = if pointer n == 0 then suc (empties pointer n) else empties pointer n

-- how many of the numbers below n pass the test
abbrev pub how_many : (ℕ → Bool) → ℕ → ℕ
how_many test zero = 0
how_many test (suc n) = (if test n then 1 else 0) + how_many test n

-- 1 where there is one, else 0
abbrev pub one_if : Option ℕ → ℕ
one_if None = 0
one_if (Some e) = 1

-- how many of the extents below n hold chunks, and how many runs
abbrev pub chunk_extents : Extents → ℕ → ℕ
chunk_extents x n = how_many (λ e. nat_lt 0 (x.pointer e) && not (x.of_runs e)) n

abbrev pub run_extents : Extents → ℕ → ℕ
run_extents x n = how_many (λ e. nat_lt 0 (x.pointer e) && x.of_runs e) n

-- e passes, and none below it does
abbrev pub IsFirst : (P : ℕ → Type 0) → ℕ → Type 0
IsFirst P e = P e × ((d : ℕ) → d < e → P d → ⊥)

-- the extent, but none where it is e
abbrev pub other_than : ℕ → Option ℕ → Option ℕ
other_than e None = None
other_than e (Some d) = if d == e then None else Some d

-- after so many pages of e were given, e is open, or none is where e is full
abbrev pub open_after : Shape → (e pointer : ℕ) → Option ℕ
open_after S e pointer = if pointer == S.pages then None else Some e

-- frames may be appended behind those on an extent: where extents are filled up behind any, else behind those alone that were
-- all appended since the store was opened
abbrev pub MayFill : (fills : Bool) → (found : ℕ) → Type 0
MayFill false found = found ≡ 0
MayFill true found = Unit {0}

-- a page of an extent counts as found where more pages than so many were found there: than come before it where extents are
-- filled up, else than none
abbrev pub first_found : Shape → (page : ℕ) → ℕ
first_found S page = if S.fills then page else 0

-- how far a frame may reach that begins at a page of an extent of which so many pages were found: to their end, where extents
-- are filled up and it begins among them, else to the extent's end
abbrev pub reach : Shape → (found page : ℕ) → ℕ
reach S found page = if S.fills then (if nat_lt page found then found else S.pages) else S.pages

module _ (S : Shape) where
  -- e is open and has room for k pages
  abbrev pub HasRoom : Extents → (k e : ℕ) → Type 0
  HasRoom x k e = (x.open_extent ≡ Some e) × (e < S.extents) × (x.pointer e + k ≤ S.pages)

  -- e is the lowest-numbered empty extent
  abbrev pub IsFirstEmpty : Extents → ℕ → Type 0
  IsFirstEmpty x e = (e < S.extents) × (x.pointer e ≡ 0) × ((d : ℕ) → d < e → 0 < x.pointer d)

  -- a frame of k pages goes to e: to the open extent where it has room, else to the first empty extent, where enough
  -- other extents are empty
  abbrev pub Placed : Extents → Purpose → (k e : ℕ) → Type 0
  Placed x purpose k e = HasRoom x k e
      ⊎ (((o : ℕ) → HasRoom x k o → ⊥) × IsFirstEmpty x e × (k ≤ S.pages)
      × (spare purpose < empties x.pointer S.extents))

  -- a frame of k pages goes nowhere: the extents are full for this purpose
  abbrev pub NoPlace : Extents → Purpose → ℕ → Type 0
  NoPlace x purpose k = (e : ℕ) → Placed x purpose k e → ⊥

  -- the extents once a frame of k pages went to e
  abbrev pub taken : Extents → (e k : ℕ) → Extents
  taken x e k = record x {
    pointer = with x.pointer e (x.pointer e + k);
    open_extent = open_after S e (x.pointer e + k);
  }

  -- where chunks and runs lie apart: k pages fit behind the frames on e, which are runs or chunks, and e may be filled up
  abbrev pub Behind : Extents → (runs : Bool) → (k e : ℕ) → Type 0
  Behind x runs k e = (e < S.extents) × (0 < x.pointer e) × (x.of_runs e ≡ runs) × (x.pointer e + k ≤ S.pages)
      × MayFill S.fills (x.found e)

  -- they fit there for this purpose: chunks of a put not where a sweep goes on or wrote first, copies not where it goes
  -- on, and one run of all nowhere
  abbrev pub Takes : Extents → Purpose → (k e : ℕ) → Type 0
  Takes x ForPut k e = Behind x false k e × (x.swept e ≡ false) × (x.fresh ≢ Some e)
  Takes x ForRun k e = Behind x true k e
  Takes x ForMove k e = Behind x false k e × (x.swept e ≡ false)
  Takes x ForMerge k e = ⊥

  -- the extent to which the last frame of the kind went, if one is noted
  abbrev pub noted : Extents → Purpose → Option ℕ
  noted x ForPut = x.open_extent
  noted x ForRun = None
  noted x ForMove = x.last
  noted x ForMerge = None

  -- an empty extent may be taken: for chunks while as many are left as may hold runs and two more, the one that the sweep
  -- opened not counted; for runs while fewer hold runs than may; one for a sweep; for one run of all always
  abbrev pub MayOpen : Extents → Purpose → Type 0
  MayOpen x ForPut = suc (chunk_extents x S.extents) + S.run_extents + 2 ≤ S.extents + one_if x.fresh
  MayOpen x ForRun = run_extents x S.extents < S.run_extents
  MayOpen x ForMove = x.fresh ≡ None
  MayOpen x ForMerge = Unit {0}

  -- where chunks and runs lie apart a frame of k pages goes to e: behind the last one of its kind, else behind others on
  -- the first extent where it fits, else to the first empty one, where one may be taken
  abbrev pub GoesApart : Extents → Purpose → (k e : ℕ) → Type 0
  GoesApart x purpose k e = ((noted x purpose ≡ Some e) × Takes x purpose k e)
      ⊎ (((d : ℕ) → noted x purpose ≡ Some d → Takes x purpose k d → ⊥) × IsFirst (Takes x purpose k) e)
      ⊎ (((d : ℕ) → Takes x purpose k d → ⊥) × IsFirstEmpty x e × (k ≤ S.pages) × MayOpen x purpose)

  -- a frame of k pages goes to e, where chunks and runs lie apart or not
  abbrev pub Goes : (apart : Bool) → Extents → Purpose → (k e : ℕ) → Type 0
  Goes false x purpose k e = Placed x purpose k e
  Goes true x purpose k e = GoesApart x purpose k e

  -- the open extent after k pages of e were given
  abbrev pub open_by : (apart : Bool) → Purpose → Extents → (e k : ℕ) → Option ℕ
  open_by false purpose x e k = open_after S e (x.pointer e + k)
  open_by true ForPut x e k = Some e
  open_by true ForRun x e k = x.open_extent
  open_by true ForMove x e k = x.open_extent
  open_by true ForMerge x e k = x.open_extent

  -- which extents hold runs then: e too where a run went there
  abbrev pub of_runs_by : (apart : Bool) → Purpose → (e : ℕ) → (ℕ → Bool) → ℕ → Bool
  of_runs_by false purpose e held = held
  of_runs_by true ForPut e held = held
  of_runs_by true ForRun e held = λ d. if d == e then true else held d
  of_runs_by true ForMove e held = held
  of_runs_by true ForMerge e held = λ d. if d == e then true else held d

  -- the extent that the sweep opened, and the one to which the last copy went: e where it is one
  abbrev pub fresh_by : (apart : Bool) → Purpose → Extents → (e : ℕ) → Option ℕ → Option ℕ
  fresh_by false purpose x e fresh = fresh
  fresh_by true ForPut x e fresh = fresh
  fresh_by true ForRun x e fresh = fresh
  fresh_by true ForMove x e fresh = if x.pointer e == 0 then Some e else fresh
  fresh_by true ForMerge x e fresh = fresh

  abbrev pub last_by : (apart : Bool) → Purpose → (e : ℕ) → Option ℕ → Option ℕ
  last_by false purpose e last = last
  last_by true ForPut e last = last
  last_by true ForRun e last = last
  last_by true ForMove e last = Some e
  last_by true ForMerge e last = last

  -- what is noted of the extents y, where k pages of e were given that x had left
  abbrev pub noted_by : (apart : Bool) → Purpose → (x : Extents) → (e k : ℕ) → (y : Extents) → Extents
  noted_by apart purpose x e k y = record y {
    open_extent = open_by apart purpose x e k;
    of_runs = of_runs_by apart purpose e y.of_runs;
    fresh = fresh_by apart purpose x e y.fresh;
    last = last_by apart purpose e y.last;
  }

  -- the extents once a frame of k pages went to e
  abbrev pub taken_by : (apart : Bool) → Purpose → Extents → (e k : ℕ) → Extents
  taken_by apart purpose x e k =
      noted_by apart purpose x e k (record x { pointer = with x.pointer e (x.pointer e + k) })

  -- frames of these numbers of pages, one after another, all go somewhere
  abbrev pub FitsBy : (apart : Bool) → Extents → Purpose → List ℕ → Type 0
  FitsBy apart x purpose [] = Unit {0}
  FitsBy apart x purpose (k ∷ ks) =
      (e : ℕ) × Goes apart x purpose k e × FitsBy apart (taken_by apart purpose x e k) purpose ks

  abbrev pub Fits : Extents → Purpose → List ℕ → Type 0
  Fits x purpose ks = FitsBy false x purpose ks

-- e is emptied under this version of the root
abbrev pub emptied : Extents → (e root : ℕ) → Extents
emptied x e root = record x {
  pointer = with x.pointer e 0;
  generation = with x.generation e (suc (x.generation e));
  reset = with x.reset e root;
}

-- where chunks and runs lie apart nothing is noted of e then
abbrev pub forgotten : (apart : Bool) → Extents → ℕ → Extents
forgotten apart x e = record x {
  of_runs = if apart then (λ d. if d == e then false else x.of_runs d) else x.of_runs;
  found = if apart then with x.found e 0 else x.found;
  open_extent = if apart then other_than e x.open_extent else x.open_extent;
  last = if apart then other_than e x.last else x.last;
}

-- e is marked as being swept, or no longer
abbrev pub marked : Extents → ℕ → Bool → Extents
marked x e b = record x { swept = λ d. if d == e then b else x.swept d }
