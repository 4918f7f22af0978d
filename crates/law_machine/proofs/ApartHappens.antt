-- Where chunks and runs lie apart: in a new store a shard is put, staged, swept, and the sweep ends or is given up.
use Rattle.std.proofs.Common.{◌≡◌, ◌≢◌, inl, inr, ⊎_elim, ℕ, zero, suc, ◌+◌, ◌<◌, ◌≤◌, true, false, List, [], ◌∷◌, length, Some, None, ◌==◌, true≢false, eq-eqb, ne_eqb, le_refl, refl, sym, ap, ◌∙◌, subst, arith}
use Rattle.std.proofs.lemmas.Bool.{cases_eq}
use Rattle.law_machine.proofs.Answered.{put_one}
use Rattle.law_machine.proofs.AnsweredStages.{stage_one}
use Rattle.law_machine.proofs.AnsweredSweeps.{left_one, move_one, retire_one, undamaged}
use Rattle.law_machine.proofs.ApartAnswered.{sweepable}
use Rattle.law_machine.proofs.Counting.{lookup_there}
use Rattle.law_machine.proofs.Examples.{example_is_format}
use Rattle.law_machine.proofs.Meant.{frame_fits, own_mark}
use Rattle.law_machine.proofs.Needs.{need_there}
use Rattle.law_machine.proofs.Outcomes.{clears, ends, not_true}
use Rattle.law_machine.proofs.Places.{takes_behind}
use Rattle.law_machine.proofs.Shapes.{is_shape}
use Rattle.law_machine.specs.Apart.{FirstLeft, NothingLeft, rooted_apart, settled, sweeping}
use Rattle.law_machine.specs.Append.{AppendBy, appended_by, next_locator}
use Rattle.law_machine.specs.ApartExample.{example_abandoned, example_apart, example_image, example_retired}
use Rattle.law_machine.specs.Device.{IsShape, Page, mark_of}
use Rattle.law_machine.specs.Element.{Entry, Locator, Run}
use Rattle.law_machine.specs.Events.{Does, mark}
use Rattle.law_machine.specs.Example.{example_format}
use Rattle.law_machine.specs.Extents.{ForMove, ForPut, ForRun, Goes, Purpose, Takes}
use Rattle.law_machine.specs.Format.{Two, number_of}
use Rattle.law_machine.specs.Formats.{RunFrame}
use Rattle.law_machine.specs.Frames.{IsFormat}
use Rattle.law_machine.specs.Grounds.{PastLimit, WouldPass}
use Rattle.law_machine.specs.Index.{if_live, live_at, lookup}
use Rattle.law_machine.specs.Lists.{nth}
use Rattle.law_machine.specs.Machine.{World}
use Rattle.law_machine.specs.Open.{opened_state}
use Rattle.law_machine.specs.Recovery.{IsNew, Recovers}
use Rattle.law_machine.specs.Refusal.{Full, Halted, IndexFull, NotSweepable, StillLive, TooLarge, WornOut}
use Rattle.law_machine.specs.State.{Abandon, Abandoned, Accepted, BeginSweep, Event, MoveOne, Moved, Put, Reply, Retire, Retired, Stage, Staged, State, Sweeping, index_now}
use Rattle.law_machine.specs.Step.{History, Step}

pub is_new : IsNew example_apart example_format example_image
is_new = record {
  superblock = λ j lt. subst (λ (i : ℕ). example_image (example_apart.section_page i)
      ≡ example_format.superblock (number_of example_apart.format) i 1 0 (λ e. 0) (λ e. 0)) (let e : 0 ≡ j = omega arith in e) refl;
  root = refl;
  root_fits = refl;
  some_number = omega arith;
}

abbrev gives : Recovers example_apart example_format example_image 0 (λ id. None)
gives = record {
  formats = λ j. 2;
  versions = λ j. 1;
  recorded = λ j. 0;
  pointers = λ e. 0;
  generations = λ e. 0;
  superblock = is_new.superblock;
  version = 1;
  recorded_fit = λ j lt. omega arith;
  runs = [];
  root = is_new.root;
  root_fits = is_new.root_fits;
  runs_fit = λ r none. absurd none;
  versions_fit = λ j lt. (le_refl _, is_new.some_number);
  extents_fit = λ e. (omega arith, omega arith);
  bounds = record {
    some_version = le_refl _;
    version_fits = is_new.some_number;
    commands_fit = omega arith;
    few_runs = omega arith;
    weight_fits = omega arith;
    chunks_fit = λ id. omega arith;
  };
  gives = record {
    runs_read = λ r none. absurd none;
    table_passes = λ id. tt;
    visible_pass = λ id. tt;
    runs_pass = λ stand r none. absurd none;
    holds = λ id l none. absurd none;
    values = λ id. refl;
  };
}

abbrev s0 : State
s0 = opened_state example_apart example_format example_image 0 (λ id. None) gives

put_goes : Goes example_apart true s0.world.extents ForPut 1 0
put_goes = inr (inr (
  (λ d t. let some : 0 < s0.world.extents.pointer d = (takes_behind example_apart s0.world.extents ForPut 1 d t).1 in
      absurd (omega arith)),
  (omega arith, refl, λ d lt. absurd (omega arith)),
  omega arith,
  omega arith,
))

-- a frame goes to e, and its superblock version needs what it has to
abbrev need : World → ℕ → ℕ
need w e = (need_there example_apart w (example_apart.section e)).0

abbrev append : World → Purpose → List Page → ℕ → World
append w purpose bs e = appended_by example_apart true purpose w e (need w e) bs

appends : (w : World) (purpose : Purpose) (bs : List Page) (e : ℕ) → Goes example_apart true w.extents purpose (length bs) e
    → AppendBy example_apart true w purpose bs
    (next_locator example_apart w e bs) (append w purpose bs e)
appends w purpose bs e goes = record {
  extent = e;
  need = need w e;
  placed = goes;
  needs = (need_there example_apart w (example_apart.section e)).1;
  at = refl;
  after = refl;
}

-- the put: a chunk without bytes, the only one of shard 1, which command 1 puts
abbrev payload : List ℕ
payload = 1 ∷ 0 ∷ 1 ∷ 1 ∷ []

abbrev world1 : World
world1 = append s0.world ForPut (payload ∷ []) 0

abbrev chunk : Locator
chunk = record { extent = 0; page = 0; generation = 0; mark = mark_of example_apart (payload ∷ []) }

abbrev s1 : State
s1 = record s0 { world = world1; table = record { id = 1; locators = chunk ∷ [] } ∷ []; commands = (1, Some []) ∷ [] }

puts : Does example_apart example_format s0 (Put 1 []) (Accepted 1) s1
puts = (
  payload ∷ [],
  chunk ∷ [],
  record s0 { world = world1 },
  ([] ∷ [], (refl, omega arith, omega arith), refl),
  (world1, (world1, appends s0.world ForPut (payload ∷ []) 0 put_goes, refl), refl),
  refl,
  refl,
)

-- the run of an entry over others of its identifier
alone : (l : Locator) (others : List Entry) → ((id : ℕ) → 1 ≢ id → lookup id others ≡ None) → (id : ℕ)
    → lookup id (record { id = 1; locators = l ∷ [] } ∷ [])
    ≡ if_live (lookup id (record { id = 1; locators = l ∷ [] } ∷ others))
alone l others none id = elim (cases_eq 1 id) [
  | inl is ↦ (let test : (1 == id) ≡ true = eq-eqb 1 id is in rw test refl)
  | inr not ↦ (let test : (1 == id) ≡ false = ne_eqb 1 id not in rw test (ap if_live (sym (none id not))))
]

-- the Stage
run_goes : Goes example_apart true s1.world.extents ForRun 1 1
run_goes = inr (inr (
  (λ d t. true≢false (sym t.2)),
  (omega arith, refl, λ d lt. subst (λ (e : ℕ). 0 < s1.world.extents.pointer e) (let e : 0 ≡ d = omega arith in e) (omega arith)),
  omega arith,
  omega arith,
))

abbrev world2 : World
world2 = append s1.world ForRun (example_format.frame RunFrame (example_format.run s1.table)) 1

abbrev run : Run
run = record { place = next_locator example_apart s1.world 1 (example_format.frame RunFrame (example_format.run s1.table)); entries = s1.table }

abbrev s2 : State
s2 = rooted_apart example_apart example_format (record s1 { world = world2 }) (run ∷ [])

stages : Does example_apart example_format s1 Stage (Staged 2) s2
stages = (
  inl (λ none. let e : record { id = 1; locators = chunk ∷ [] } ∷ [] ≡ [] = none in cc),
  refl,
  (
    record s1 { world = world2 },
    run ∷ [],
    inl (inl (
      s1.table,
      run.place,
      (λ none. let e : record { id = 1; locators = chunk ∷ [] } ∷ [] ≡ [] = none in cc),
      (tt, alone chunk [] (λ id not. refl)),
      (world2, appends s1.world ForRun (example_format.frame RunFrame (example_format.run s1.table)) 1 run_goes, refl),
      refl,
    )),
    refl,
  ),
)

-- the sweep
abbrev s3 : State
s3 = sweeping example_apart s2 0

begins : Does example_apart example_format s2 (BeginSweep 0) Sweeping s3
begins = (refl, refl, omega arith, omega arith, refl, refl)

-- the copy: the chunk is the only one that lives
only_chunk : (d j : ℕ) (x : Locator) → nth (live_at (index_now s3) d) j ≡ Some x → (1 ≡ d) × (0 ≡ j) × (chunk ≡ x)
only_chunk d j x = elim (cases_eq 1 d) [
  | inl is ↦ (let test : (1 == d) ≡ true = eq-eqb 1 d is in rw test (at_first is j))
  | inr not ↦ (let test : (1 == d) ≡ false = ne_eqb 1 d not in rw test (λ at. absurd (let wrong : None ≡ Some x = at in cc)))
]
  where
    at_first : 1 ≡ d → (k : ℕ) → nth (chunk ∷ []) k ≡ Some x → (1 ≡ d) × (0 ≡ k) × (chunk ≡ x)
    at_first is zero at = (is, refl, (let same : Some chunk ≡ Some x = at in cc))
    at_first is (suc k) at = absurd (let wrong : None ≡ Some x = at in cc)

first_left : FirstLeft s3 0 1 0 chunk
first_left = record {
  there = refl;
  on_it = refl;
  left = λ c. c.1;
  first = λ d k x at on. (let is = only_chunk d k x at in inr (inr (is.0, omega arith)));
}

-- only extents 0 and 1 have pages: one is being swept, and one holds runs
none_takes : (d : ℕ) → Takes example_apart s3.world.extents ForMove 1 d → ⊥
none_takes d t = elim (cases_eq d 0) [
  | inl is ↦ true≢false (subst (λ (e : ℕ). s3.world.extents.swept e ≡ false) is t.1)
  | inr other ↦ elim (cases_eq d 1) [
    | inl is ↦ true≢false (subst (λ (e : ℕ). s3.world.extents.of_runs e ≡ false) is t.0.2)
    | inr away ↦ (
        let some : 0 < s3.world.extents.pointer d = t.0.1 in
        let test : (d == 0) ≡ false = ne_eqb d 0 other in
        let also : (d == 1) ≡ false = ne_eqb d 1 away in
        let none : s3.world.extents.pointer d ≡ 0 = rw (test, also) refl in omega arith)
  ]
]

copy_goes : Goes example_apart true s3.world.extents ForMove 1 2
copy_goes = inr (inr (
  none_takes,
  (
    omega arith,
    refl,
    λ d lt. elim (cases_eq d 0) [
      | inl is ↦ subst (λ (e : ℕ). 0 < s3.world.extents.pointer e) (sym is) (omega arith)
      | inr other ↦ subst (λ (e : ℕ). 0 < s3.world.extents.pointer e) (let e : 1 ≡ d = omega arith in e) (omega arith)
    ],
  ),
  omega arith,
  refl,
))

abbrev world4 : World
world4 = append s3.world ForMove (payload ∷ []) 2

abbrev moved : Locator
moved = record { extent = 2; page = 0; generation = 0; mark = mark_of example_apart (payload ∷ []) }

abbrev s4 : State
s4 = record s3 { world = world4; copies = record { id = 1; chunk = 0; from = chunk; to = moved } ∷ [] }

pub shape : IsShape example_apart
shape = let base = is_shape 6 2 1 8 Two (record {
  some_page = omega arith;
  some_section = omega arith;
  some_extent = omega arith;
  all = omega arith;
}) (λ on. omega arith) in record {
  root_kind = base.root_kind;
  section_kind = base.section_kind;
  root_only = base.root_only;
  section_only = base.section_only;
  frame_kind = base.frame_kind;
  extent = base.extent;
  index = base.index;
  section = base.section;
  some_chunk = base.some_chunk;
  some_byte = base.some_byte;
  some_piece = base.some_piece;
  small_pieces = base.small_pieces;
  few_pieces = base.few_pieces;
  enough_runs = base.enough_runs;
  weighs = base.weighs;
  one_fits = base.one_fits;
  apart = λ on. (refl, refl, omega arith, omega arith);
  fills = λ on. absurd (true≢false (sym on));
  marks = base.marks;
}

moves : Does example_apart example_format s3 (MoveOne 0) (Moved 1 0) s4
moves = (
  chunk,
  moved,
  payload,
  record s3 { world = world4 },
  refl,
  first_left,
  refl,
  record {
    passes = record {
      generation = refl;
      below = omega arith;
      inside = (omega arith, omega arith);
      mark = frame_fits example_apart shape (payload ∷ []);
    };
    below = inl (omega arith);
    inside = omega arith;
    within = omega arith;
    stand = (refl, tt);
    marked = own_mark (mark_of example_apart (payload ∷ []));
    long = refl;
  },
  (world4, appends s3.world ForMove (payload ∷ []) 2 copy_goes, refl),
  refl,
)

-- the Retire
abbrev settled_now : State
settled_now = settled (mark s4 0 false)

second_goes : Goes example_apart true settled_now.world.extents ForRun 1 1
second_goes = inr (inl (
  (λ d is t. let wrong : None ≡ Some d = is in cc),
  (
    (omega arith, omega arith, refl, omega arith, refl),
    λ d lt t. true≢false (sym (subst (λ (e : ℕ). settled_now.world.extents.of_runs e ≡ true) (let e : d ≡ 0 = omega arith in e) t.2)),
  ),
))

abbrev world5 : World
world5 = append settled_now.world ForRun (example_format.frame RunFrame (example_format.run settled_now.table)) 1

abbrev second : Run
second = record {
  place = next_locator example_apart settled_now.world 1 (example_format.frame RunFrame (example_format.run settled_now.table));
  entries = settled_now.table;
}

abbrev s5 : State
s5 = rooted_apart example_apart example_format (record settled_now { world = world5 }) (second ∷ [])

nothing_left : NothingLeft s4 0
nothing_left id k l at on = let is = only_chunk id k l at in
    (record { id = 1; chunk = 0; from = chunk; to = moved }, inl refl, is.0, is.1, is.2)

retires : Does example_apart example_format s4 (Retire 0) (Retired 3) s5
retires = (
  refl,
  nothing_left,
  refl,
  (
    record settled_now { world = world5 },
    second ∷ [],
    inl (inl (
      settled_now.table,
      second.place,
      (λ none. let e : record { id = 1; locators = moved ∷ [] } ∷ [] ≡ [] = none in cc),
      (tt, alone moved run.entries (λ id not. lookup_there (record { id = 1; locators = chunk ∷ [] }) [] id not)),
      (world5, appends settled_now.world ForRun (example_format.frame RunFrame (example_format.run settled_now.table)) 1 second_goes, refl),
      refl,
    )),
    refl,
  ),
)

-- or it is given up, and a root is staged alone
abbrev s6 : State
s6 = mark s4 0 false

abbrev s7 : State
s7 = rooted_apart example_apart example_format s6 (run ∷ [])

abandons : Does example_apart example_format s4 (Abandon 0) Abandoned s6
abandons = (refl, refl)

stages_alone : Does example_apart example_format s6 Stage (Staged 3) s7
stages_alone = (inr refl, refl, (s6, run ∷ [], inl (inr ((tt, λ id. refl), refl, refl)), refl))

was_reset : (s5.world.extents.generation 0 ≡ 1) × (s7.world.extents.generation 2 ≡ 1)
was_reset = (refl, refl)

-- none of them is refused
format : IsFormat example_apart example_format
format = example_is_format example_apart refl

-- all numbers are small
small : (t : State) → t.world.written ≤ 9 → t.world.superblocks 0 ≤ 9 → t.world.root ≤ 9
    → ((e : ℕ) → t.world.extents.generation e ≤ 9) → t.count + length t.commands ≤ 9
    → PastLimit example_apart example_format t → ⊥
small t written superblocks root generation commands (inl (inl past)) = omega arith
small t written superblocks root generation commands (inl (inr (inl past))) =
    let first : past.0 ≡ 0 = (let lt : past.0 < 1 = past.1 in omega arith) in
    let over : 9223372036854775807 < t.world.superblocks 0 =
    subst (λ (j : ℕ). 9223372036854775807 < t.world.superblocks j) first past.2 in omega arith
small t written superblocks root generation commands (inl (inr (inr (inl past)))) = omega arith
small t written superblocks root generation commands (inl (inr (inr (inr past)))) =
    let over : 4294967295 < t.world.extents.generation past.0 = past.1 in
    let few : t.world.extents.generation past.0 ≤ 9 = generation past.0 in omega arith
small t written superblocks root generation commands (inr past) = omega arith

fresh : (s t : State) (event : Event) → ((r : Reply) (u : State) → Does example_apart example_format s event r u → u ≡ t)
    → (PastLimit example_apart example_format t → ⊥) → WouldPass example_apart example_format s event → ⊥
fresh s t event one fine w = fine (subst (λ (x : State). PastLimit example_apart example_format x) (one w.0 w.1 w.2) w.3)

put_steps : Step example_apart example_format s0 (Put 1 []) (Accepted 1) s1
put_steps = (
  clears Halted (not_true false refl) (clears TooLarge (λ large. let over : 65000 < 0 = omega (arith, large) in omega arith)
      (clears IndexFull (λ heavy. let over : 100 < 1 = heavy.2 in omega arith)
      (clears Full (λ none. none (payload ∷ []) (chunk ∷ []) (record s0 { world = world1 }) ([] ∷ [], (refl, omega arith, omega arith), refl)
      (world1, (world1, appends s0.world ForPut (payload ∷ []) 0 put_goes, refl), refl))
      (clears WornOut (fresh s0 s1 (Put 1 [])
      (λ r u d. put_one example_apart example_format shape format s0 1 [] (Accepted 1) r s1 u puts d)
      (small s1 (omega arith) (omega arith) (omega arith) (λ e. omega arith) (omega arith))) ends)))),
  puts,
)

stage_steps : Step example_apart example_format s1 Stage (Staged 2) s2
stage_steps = (
  clears Halted (not_true false refl) (clears Full (λ full. full.1 s2 stages.2)
      (clears WornOut (fresh s1 s2 Stage
      (λ r u d. stage_one example_apart example_format shape format s1 (Staged 2) r s2 u stages d)
      (small s2 (omega arith) (omega arith) (omega arith) (λ e. omega arith) (omega arith))) ends)),
  stages,
)

begin_steps : Step example_apart example_format s2 (BeginSweep 0) Sweeping s3
begin_steps = (
  clears Halted (not_true false refl)
      (clears NotSweepable (sweepable example_apart example_format shape format refl s2 0 s3 begins) ends),
  begins,
)

move_steps : Step example_apart example_format s3 (MoveOne 0) (Moved 1 0) s4
unfolding moves
move_steps = (
  clears Halted (not_true false refl) (clears NotSweepable (λ not. true≢false not)
      (undamaged example_apart example_format shape format
      (λ g x. let same : x.2 ≡ chunk =
      (left_one example_apart example_format shape format s3 0 x.0 1 x.1 0 x.2 chunk x.3 first_left).2 in
      let wrong : None ≡ Some g = ap s3.opening.damage (sym same) ∙ x.4 in cc)
      (clears Full (λ full. full.1 1 0 chunk moved payload (record s3 { world = world4 }) first_left moves.7 moves.8)
      (clears WornOut (fresh s3 s4 (MoveOne 0)
      (λ r u d. move_one example_apart example_format shape format s3 0 (Moved 1 0) r s4 u moves d)
      (small s4 (omega arith) (omega arith) (omega arith) (λ e. omega arith) (omega arith))) ends)))),
  moves,
)

retire_steps : Step example_apart example_format s4 (Retire 0) (Retired 3) s5
retire_steps = (
  clears Halted (not_true false refl) (clears NotSweepable (λ not. true≢false not)
      (clears StillLive (λ some. some nothing_left) (clears Full (λ full. full s5 retires.3)
      (clears WornOut (λ worn. ⊎_elim (fresh s4 s5 (Retire 0)
      (λ r u d. retire_one example_apart example_format shape format s4 0 (Retired 3) r s5 u retires d)
      (small s5 (omega arith) (omega arith) (omega arith) raised (omega arith)))
      (λ (late : 4294967295 ≤ s4.world.extents.generation 0). absurd (omega arith)) worn) ends)))),
  retires,
)
  where
    raised : (e : ℕ) → s5.world.extents.generation e ≤ 9
    raised e = elim (cases_eq e 0) [
      | inl is ↦ subst (λ (d : ℕ). s5.world.extents.generation d ≤ 9) (sym is) (omega arith)
      | inr not ↦ (let test : (e == 0) ≡ false = ne_eqb e 0 not in rw test (omega arith))
    ]

abandon_steps : Step example_apart example_format s4 (Abandon 0) Abandoned s6
abandon_steps = (clears Halted (not_true false refl) (clears NotSweepable (λ not. true≢false not) ends), abandons)

alone_steps : Step example_apart example_format s6 Stage (Staged 3) s7
alone_steps = (
  clears Halted (not_true false refl) (clears Full (λ full. full.1 s7 stages_alone.2)
      (clears WornOut (fresh s6 s7 Stage
      (λ r u d. stage_one example_apart example_format shape format s6 (Staged 3) r s7 u stages_alone d)
      (small s7 (omega arith) (omega arith) (omega arith) raised (omega arith))) ends)),
  stages_alone,
)
  where
    raised : (e : ℕ) → s7.world.extents.generation e ≤ 9
    raised e = elim (cases_eq e 2) [
      | inl is ↦ subst (λ (d : ℕ). s7.world.extents.generation d ≤ 9) (sym is) (omega arith)
      | inr not ↦ (let test : (e == 2) ≡ false = ne_eqb e 2 not in rw test (omega arith))
    ]

pub retired_there : (given : Recovers example_apart example_format example_image 0 (λ id. None)) × (t : State)
    × History example_apart example_format (opened_state example_apart example_format example_image 0 (λ id. None) given)
    example_retired t × (t.world.extents.generation 0 ≡ 1)
retired_there = (
  gives,
  s5,
  (s1, put_steps, (s2, stage_steps, (s3, begin_steps, (s4, move_steps, (s5, retire_steps, refl))))),
  refl,
)

pub abandoned_there : (given : Recovers example_apart example_format example_image 0 (λ id. None)) × (t : State)
    × History example_apart example_format (opened_state example_apart example_format example_image 0 (λ id. None) given)
    example_abandoned t × (t.world.extents.generation 2 ≡ 1)
abandoned_there = (
  gives,
  s7,
  (s1, put_steps, (s2, stage_steps, (s3, begin_steps, (s4, move_steps, (s6, abandon_steps, (s7, alone_steps, refl)))))),
  refl,
)
