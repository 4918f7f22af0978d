-- A put of the machine is one of room: its frames.
use Rattle.std.proofs.Common.{◌≡◌, ◌≢◌, ◌⊎◌, inl, inr, ⊎_elim, ℕ, suc, ◌+◌, ◌<◌, ◌≤◌, ◌==◌, not, Bool, true, false, List, [], ◌∷◌, ◌++◌, length, Some, None, if◌then◌else◌, eq-eqb, refl, sym, ap, ◌∙◌, subst, arith}
use Rattle.std.proofs.lemmas.Bool.{cases_Bool, cases_eq, ne_eqb, true≢false}
use Rattle.std.proofs.lemmas.List.{append_assoc}
use Rattle.law_machine.proofs.Filled.{may_fill}
use Rattle.law_machine.proofs.Needs.{after_extents_by}
use Rattle.law_machine.proofs.Parts.{with_other, with_same}
use Rattle.law_machine.specs.Append.{AppendAllBy, chunk_frames, page_counts}
use Rattle.law_machine.specs.Device.{IsShape, Shape}
use Rattle.law_machine.specs.Element.{Locator}
use Rattle.law_machine.specs.Extents.{Extents, ForPut, GoesApart, MayFill, Takes, chunk_extents as machine_chunks, one_if, taken_by}
use Rattle.law_machine.specs.Formats.{ChunkFrame, Formats}
use Rattle.law_machine.specs.Frames.{IsFormat}
use Rattle.law_machine.specs.Lists.{with, ◌∈◌}
use Rattle.law_machine.specs.Machine.{World}
use Rattle.law_room.proofs.Counts.{count_le, count_more}
use Rattle.law_room.proofs.MachineGoes.{IsSwept, chunk_of, chunks_counted, empty_here, empty_still, filled_grows, filled_here, holds_given, holds_runs, may_fill_all, pointer_given, pointer_here, pointer_is, unless_some, unless_stays}
use Rattle.law_room.specs.Events.{GoesForPut, TakesPut, Writes, unless, with_chunk}
use Rattle.law_room.specs.OfMachine.{AreExtentsOf, IsFilled, holding}
use Rattle.law_room.specs.Rooms.{Chunk, OfChunks, Room, chunk_extents, is_of_chunks, opened_by}

module _ (S : Shape) (aside : ℕ → Bool) (x : Extents) (r : Room) (of : AreExtentsOf S aside x r)
    (held : IsSwept S aside x r.sweep) where
  no_aside : (e : ℕ) → x.fresh ≢ Some e → aside e ≡ false
  no_aside e not = elim (cases_Bool (aside e)) [
    | inl on ↦ absurd (not (held.aside_fresh e on))
    | inr off ↦ off
  ]

  takes_room : (k e : ℕ) → Takes S x ForPut k e → TakesPut S r k e
  takes_room k e takes =
      let behind = takes.0 in
      let off : aside e ≡ false = no_aside e takes.2 in
      let fits : x.pointer e + k ≤ S.pages = behind.3 in
      let is : r.pointer e ≡ x.pointer e = pointer_is S aside x r of e behind.0 off in (
        (behind.0, filled_here S aside x r of e off behind.1 behind.0 false behind.2, omega arith),
        held.alone e takes.1 takes.2,
      )

  takes_machine : (k e : ℕ) → r.open_extent ≡ Some e → TakesPut S r k e → (x.open_extent ≡ Some e) × Takes S x ForPut k e
  takes_machine k e is takes =
      let at = unless_some aside x.open_extent e (sym of.open_extent ∙ is) in
      let filled = of.noted.appended e at.0 in
      let left = held.left e filled.0 takes.1 in
      let fits : r.pointer e + k ≤ S.pages = takes.0.2 in
      let same : r.pointer e ≡ x.pointer e = pointer_is S aside x r of e filled.0 at.1 in (
        at.0,
        (
          (filled.0, filled.1, filled.2, omega arith, filled.3),
          left.0,
          λ fresh. true≢false (sym (left.1 fresh) ∙ at.1),
        ),
      )

  -- where extents are filled up, what takes it in room does so in the machine
  pub takes_filled : (k e : ℕ) → S.fills ≡ true → TakesPut S r k e → Takes S x ForPut k e
  takes_filled k e filled takes =
      let there = chunk_of S aside x r of e takes.0.0 takes.0.1 in
      let left = held.left e takes.0.0 takes.1 in
      let fits : r.pointer e + k ≤ S.pages = takes.0.2 in
      let same : r.pointer e ≡ x.pointer e = pointer_is S aside x r of e takes.0.0 there.0 in (
        (takes.0.0, there.1, there.2, omega arith, may_fill_all S.fills (x.found e) filled),
        left.0,
        λ fresh. true≢false (sym (left.1 fresh) ∙ there.0),
      )

  -- where a frame of a put goes in the machine
  pub put_goes : (k e : ℕ) → GoesApart S x ForPut k e → GoesForPut S r k e
  put_goes k e (inl (is, takes)) = inl (
    of.open_extent ∙ ap (unless aside) is ∙ unless_stays aside e (no_aside e takes.2),
    takes_room k e takes,
  )
  put_goes k e (inr (inl (full, first))) = inr (inl (
    (λ d is takes. (let m = takes_machine k d is takes in full d m.0 m.1)),
    takes_room k e first.0,
  ))
  put_goes k e (inr (inr (none, first, fits, more))) = inr (inr (
    (λ d is takes. (let m = takes_machine k d is takes in none d m.1)),
    (first.0, empty_here S aside x r of e first.0 first.1, fits),
    (λ filled d takes. none d (takes_filled k d filled takes)),
  ))

  -- the extent where it goes, and what lies there
  pub record IsPlace (k e : ℕ) : Type 0 where
    pub exists : e < S.extents
    pub off : aside e ≡ false
    pub chunks : x.of_runs e ≡ false
    pub found : MayFill S.fills (x.found e)
    pub idle : x.swept e ≡ false
    pub kind : (r.holds e ≡ OfChunks)
        ⊎ (suc (machine_chunks x S.extents) + S.run_extents + 2 ≤ S.extents + one_if x.fresh)

  pub place : (k e : ℕ) → ((d : ℕ) → x.swept d ≡ true → 0 < x.pointer d) → GoesApart S x ForPut k e → IsPlace k e
  place k e swept (inl (is, takes)) = record {
    exists = takes.0.0;
    off = no_aside e takes.2;
    chunks = takes.0.2;
    found = takes.0.4;
    idle = takes.1;
    kind = inl (takes_room k e takes).0.1;
  }
  place k e swept (inr (inl (full, first))) = record {
    exists = first.0.0.0;
    off = no_aside e first.0.2;
    chunks = first.0.0.2;
    found = first.0.0.4;
    idle = first.0.1;
    kind = inl (takes_room k e first.0).0.1;
  }
  place k e swept (inr (inr (none, first, fits, more))) =
      let empty = of.noted.empty e first.0 first.1 in record {
        exists = first.0;
        off = no_aside e (λ is. (let some : 0 < x.pointer e = (of.noted.opened e is).1 in
            let nothing : x.pointer e ≡ 0 = first.1 in omega arith));
        chunks = empty.0;
        found = may_fill S.fills (x.found e) empty.1;
        idle = elim (cases_Bool (x.swept e)) [
          | inl on ↦ absurd (let some : 0 < x.pointer e = swept e on in
              let nothing : x.pointer e ≡ 0 = first.1 in omega arith)
          | inr idle_there ↦ idle_there
        ];
        kind = inr more;
      }

  -- room after the frame
  pub record IsPut (id k e : ℕ) : Type 0 where
    pub after : AreExtentsOf S aside (taken_by S true ForPut x e k) (with_chunk S r id k e)
    pub quota : chunk_extents (with_chunk S r id k e) S.extents + S.run_extents + 2 ≤ S.extents + opened_by r.sweep

  pub put_taken : (id k e : ℕ) → 0 < k → IsPlace k e
      → chunk_extents r S.extents + S.run_extents + 2 ≤ S.extents + opened_by r.sweep → IsPut id k e
  put_taken id k e some at quota =
      let y : Extents = taken_by S true ForPut x e k in
      let here : y.pointer e ≡ x.pointer e + k = pointer_here S aside x r of e k OfChunks y at.off refl
      (holds_runs y e false (up y refl) at.chunks) (λ d not. refl) in
      let there : holding y e ≡ OfChunks = holds_runs y e false (omega arith) at.chunks in record {
        after = record {
          pointer = λ d lt. pointer_given S aside x r of e k OfChunks y at.off refl there (λ d not. refl) d lt;
          holds = λ d lt. holds_given S aside x r of e k OfChunks y at.off refl there (λ d not. refl) d lt;
          open_extent = sym (unless_stays aside e at.off);
          last = of.last;
          noted = record {
            appended = λ d is. (let same : e ≡ d = cc in subst (λ (c : ℕ). IsFilled S y c) same
                (at.exists, omega arith, at.chunks, at.found));
            copied = λ d is. filled_grows S aside x r of e k y refl refl (λ c off lt. off) d (of.noted.copied d is);
            opened = λ d is. filled_grows S aside x r of e k y refl refl (λ c off lt. off) d (of.noted.opened d is);
            empty = empty_still S aside x r of e k y some refl refl (λ d not. refl);
          };
        };
        quota = ⊎_elim
            (λ (is : r.holds e ≡ OfChunks). (let le : chunk_extents (with_chunk S r id k e) S.extents
            ≤ chunk_extents r S.extents = count_le (λ d. is_of_chunks ((with_chunk S r id k e).holds d))
            (λ d. is_of_chunks (r.holds d)) S.extents (λ d lt on. elim (cases_eq d e) [
              | inl same ↦ ap is_of_chunks (ap r.holds same ∙ is)
              | inr other ↦ (let test : (d == e) ≡ false = ne_eqb d e other in
                  subst (λ (b : Bool). is_of_chunks (if b then OfChunks else r.holds d) ≡ true) test on)
            ]) in omega arith))
            (λ (more : suc (machine_chunks x S.extents) + S.run_extents + 2 ≤ S.extents + one_if x.fresh). (
            let le : chunk_extents (with_chunk S r id k e) S.extents ≤ suc (chunk_extents r S.extents) = count_more
            (λ d. is_of_chunks ((with_chunk S r id k e).holds d)) (λ d. is_of_chunks (r.holds d)) e S.extents
            (λ d lt on. elim (cases_eq d e) [
              | inl same ↦ inr same
              | inr other ↦ (let test : (d == e) ≡ false = ne_eqb d e other in
                  inl (subst (λ (b : Bool). is_of_chunks (if b then OfChunks else r.holds d) ≡ true) test on))
            ]) in let counted : chunk_extents r S.extents + one_if x.fresh ≤ machine_chunks x S.extents + opened_by r.sweep =
            chunks_counted S aside x r of r.sweep held in omega arith)) at.kind;
      }
    where
      up : (y : Extents) → y.pointer ≡ with x.pointer e (x.pointer e + k) → 0 < y.pointer e
      up y is = let test : (e == e) ≡ true = eq-eqb e e refl in
          let at : y.pointer e ≡ x.pointer e + k = ap (λ (f : ℕ → ℕ). f e) is ∙ rw test refl in omega arith

-- these are the chunks that a put has written, the last first
abbrev pub AreWritten : Formats → ℕ → List (List ℕ) → List Locator → List Chunk → Type 0
AreWritten F id [] [] news = news ≡ []
AreWritten F id (c ∷ cs) (l ∷ ls) news = (rest : List Chunk)
    × (news ≡ rest ++ record { id = id; extent = l.extent; pages = length (F.frame ChunkFrame c); copy = None } ∷ [])
    × AreWritten F id cs ls rest
AreWritten F id [] (l ∷ ls) news = ⊥
AreWritten F id (c ∷ cs) [] news = ⊥

module _ (S : Shape) (F : Formats) (shape : IsShape S) (format : IsFormat S F) (aside : ℕ → Bool) where
  -- the frames of a put are written in room
  pub record IsWritten (v : World) (id : ℕ) (cs : List (List ℕ)) (ls : List Locator) (r : Room) : Type 0 where
    pub after : Room
    pub writes : Writes S r id (page_counts (chunk_frames S F cs)) after
    pub extents : AreExtentsOf S aside v.extents after
    pub news : List Chunk
    pub chunks : after.chunks ≡ news ++ r.chunks
    pub written : AreWritten F id cs ls news
    pub runs : after.runs ≡ r.runs
    pub rooted : after.rooted ≡ r.rooted
    pub sweep : after.sweep ≡ r.sweep
    pub roots : after.roots ≡ r.roots
    pub quota : chunk_extents after S.extents + S.run_extents + 2 ≤ S.extents + opened_by r.sweep
    -- no chunk went to an extent that is being swept
    pub away : (l : Locator) → l ∈ ls → v.extents.swept l.extent ≡ false

  pub put_all : (w v : World) (id : ℕ) (cs : List (List ℕ)) (ls : List Locator) (r : Room)
      → AreExtentsOf S aside w.extents r → IsSwept S aside w.extents r.sweep
      → ((d : ℕ) → w.extents.swept d ≡ true → 0 < w.extents.pointer d)
      → chunk_extents r S.extents + S.run_extents + 2 ≤ S.extents + opened_by r.sweep
      → AppendAllBy S true w ForPut (chunk_frames S F cs) ls v
      → IsWritten v id cs ls r × (v.extents.swept ≡ w.extents.swept) × (v.extents.fresh ≡ w.extents.fresh)
  put_all w v id [] [] r of held swept quota is = (
    record {
      after = r;
      writes = refl;
      extents = subst (λ (u : World). AreExtentsOf S aside u.extents r) (sym is) of;
      news = [];
      chunks = refl;
      written = refl;
      runs = refl;
      rooted = refl;
      sweep = refl;
      roots = refl;
      quota = quota;
      away = λ l none. absurd none;
    },
    ap (λ (u : World). u.extents.swept) is,
    ap (λ (u : World). u.extents.fresh) is,
  )
  put_all w v id [] (l ∷ ls) r of held swept quota is = absurd is
  put_all w v id (c ∷ cs) [] r of held swept quota is = absurd is
  put_all w v id (c ∷ cs) (l ∷ ls) r of held swept quota (mid, a, more) =
      let k : ℕ = length (F.frame ChunkFrame c) in
      let e : ℕ = a.extent in
      let some : 0 < k = format.some_page ChunkFrame c in
      let goes : GoesApart S w.extents ForPut k e = a.placed in
      let at : IsPlace S aside w.extents r of held k e = place S aside w.extents r of held k e swept goes in
      let one : IsPut S aside w.extents r of held id k e = put_taken S aside w.extents r of held id k e some at quota in
      let extents : mid.extents ≡ taken_by S true ForPut w.extents e k =
      after_extents_by S shape true w mid ForPut (F.frame ChunkFrame c) l a in
      let marks : mid.extents.swept ≡ w.extents.swept = ap (λ (y : Extents). y.swept) extents in
      let opened : mid.extents.fresh ≡ w.extents.fresh = ap (λ (y : Extents). y.fresh) extents in
      let rest = put_all mid v id cs ls (with_chunk S r id k e)
      (subst (λ (y : Extents). AreExtentsOf S aside y (with_chunk S r id k e)) (sym extents) one.after)
      (record {
        alone = λ d is not. held.alone d (ap (λ (f : ℕ → Bool). f d) (sym marks) ∙ is) (λ there. not (opened ∙ there));
        left = λ d lt alone. (let was = held.left d lt alone in
            (ap (λ (f : ℕ → Bool). f d) marks ∙ was.0, λ is. was.1 (sym opened ∙ is)));
        aside_fresh = λ d is. opened ∙ held.aside_fresh d is;
        counts = ⊎_elim (λ (is : opened_by r.sweep ≡ one_if w.extents.fresh). inl (is ∙ ap one_if (sym opened)))
            (λ (out : (d : ℕ) × (w.extents.fresh ≡ Some d) × (aside d ≡ true)). inr (out.0, opened ∙ out.1, out.2))
            held.counts;
      })
      (λ d is. (let was : 0 < w.extents.pointer d = swept d (ap (λ (f : ℕ → Bool). f d) (sym marks) ∙ is) in
      subst (λ (y : Extents). 0 < y.pointer d) (sym extents) (up w.extents.pointer e k d was)))
      one.quota more in
      let place_is : l.extent ≡ e = ap (λ (x : Locator). x.extent) a.at in (
        record {
          after = rest.0.after;
          writes = (e, put_goes S aside w.extents r of held k e goes, rest.0.writes);
          extents = rest.0.extents;
          news = rest.0.news ++ record { id = id; extent = l.extent; pages = k; copy = None } ∷ [];
          chunks = rest.0.chunks
              ∙ ap (λ (d : ℕ). rest.0.news ++ record { id = id; extent = d; pages = k; copy = None } ∷ r.chunks) (sym place_is)
              ∙ sym (append_assoc rest.0.news (record { id = id; extent = l.extent; pages = k; copy = None } ∷ []) r.chunks);
          written = (rest.0.news, refl, rest.0.written);
          runs = rest.0.runs;
          rooted = rest.0.rooted;
          sweep = rest.0.sweep;
          roots = rest.0.roots;
          quota = rest.0.quota;
          away = λ x has_it. ⊎_elim
              (λ (is : x ≡ l). ap (λ (f : ℕ → Bool). f x.extent) (rest.1 ∙ marks)
              ∙ ap w.extents.swept (ap (λ (y : Locator). y.extent) is ∙ place_is) ∙ at.idle)
              (λ (there : x ∈ ls). rest.0.away x there) has_it;
        },
        rest.1 ∙ marks,
        rest.2 ∙ opened,
      )
    where
      up : (f : ℕ → ℕ) (e k d : ℕ) → 0 < f d → 0 < with f e (f e + k) d
      up f e k d some = elim (cases_eq d e) [
        | inl same ↦ (let is : with f e (f e + k) d ≡ f e + k = with_same f e (f e + k) d same in
            let at : f d ≡ f e = ap f same in omega arith)
        | inr other ↦ (let is : with f e (f e + k) d ≡ f d = with_other f e (f e + k) d other in omega arith)
      ]
