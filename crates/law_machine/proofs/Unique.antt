-- An image gives one map.
use Rattle.std.proofs.Common.{Bool, false, ◌-◌, ◌+◌, ◌<◌, if◌then◌else◌, ◌≡◌, inl, inr, ℕ, suc, ◌≤◌, true, List, [], ◌∷◌, ◌++◌, length, Option, Some, None, le_refl, le_trans, le_of_eq, refl, sym, ap, ap₂, ◌∙◌, subst, arith}
use Rattle.law_machine.proofs.Filled.{limit_low, limits_agree}
use Rattle.law_machine.proofs.LocalRecovery.{live_passes}
use Rattle.law_machine.proofs.Meant.{none_for}
use Rattle.law_machine.specs.Device.{IsShape, Page, Shape, is_meant}
use Rattle.law_machine.specs.Element.{Content, Damaged, Entry, Locator, Map, Run}
use Rattle.law_machine.specs.Format.{number_of}
use Rattle.law_machine.specs.Formats.{ChunkFrame, Formats, FrameKind, RunFrame, Stand, fault_for, is_long_frame, limit_in, opening_in, pages_from, places}
use Rattle.law_machine.specs.Frames.{IsFormat, IsFrameFormat}
use Rattle.law_machine.specs.Index.{Passes, Reads, ReadsAs, Value, after, entries_of, live, lookup}
use Rattle.law_machine.specs.Lists.{◌∈◌}
use Rattle.law_machine.specs.Recovery.{IsNew, Recovers}
use Rattle.law_machine.specs.Refusal.{Refusal}

same_stand : (S : Shape) (F : Formats) (img : ℕ → Page) (e i : ℕ) (xs ys : List Page) → length xs ≡ length ys
    → Stand S F img e i xs → Stand S F img e i ys → xs ≡ ys
same_stand S F img e i [] [] same a b = refl
same_stand S F img e i [] (y ∷ ys) same a b = absurd (omega arith)
same_stand S F img e i (x ∷ xs) [] same a b = absurd (omega arith)
same_stand S F img e i (x ∷ xs) (y ∷ ys) same a b = ap₂ (λ (z : Page) (zs : List Page). z ∷ zs) (sym a.0 ∙ b.0)
    (same_stand S F img e (suc i) xs ys (omega arith) a.1 b.1)

-- from what a format of frames says of itself
pub one_payload_of : (S : Shape) (F : Formats) → IsFrameFormat F.frame S.pages
    → (img : ℕ → Page) (e i : ℕ) (kind : FrameKind) (a b : List ℕ) → length (F.frame kind a) ≤ S.pages
    → length (F.frame kind b) ≤ S.pages → Stand S F img e i (F.frame kind a) → Stand S F img e i (F.frame kind b)
    → a ≡ b
one_payload_of S F f img e i kind a b fits_a fits_b sa sb =
    let fa = f.some_page kind a in
    let fb = f.some_page kind b in
    let first_a : img (S.address e i) ≡ fa.0 = (subst (λ (bs : List Page). Stand S F img e i bs) fa.2 sa).0 in
    let first_b : img (S.address e i) ≡ fb.0 = (subst (λ (bs : List Page). Stand S F img e i bs) fb.2 sb).0 in
    let lengths = f.tells kind a b fa.0 fb.0 fa.1 fb.1 fa.2 fb.2
    (subst (λ (bs : List Page). length bs ≤ S.pages) fa.2 fits_a)
    (subst (λ (bs : List Page). length bs ≤ S.pages) fb.2 fits_b) (sym first_a ∙ first_b) in
    f.injective kind a b fits_a
    (same_stand S F img e i (F.frame kind a) (F.frame kind b) (f.sized kind a b lengths) sa sb)

module _ (S : Shape) (F : Formats) (format : IsFormat S F) (img : ℕ → Page) (p g q k : ℕ → ℕ) where
  when : (b : Bool) (o : Option Refusal) (f : Refusal) → (if b then o else None) ≡ Some f → o ≡ Some f
  when true o f is = is
  when false o f is = absurd (let e : None ≡ Some f = is in cc)

  faulty : (pointers generations : ℕ → ℕ) (l : Locator) (f : Refusal)
      → (opening_in S F img pointers generations).damage l ≡ Some f
      → fault_for S F ChunkFrame l.mark (pages_from S F img l.extent l.page (limit_in S F pointers generations l - l.page)) ≡ Some f
  faulty pointers generations l f is = when _ _ f is

  -- where the frame stands that is meant no superblock that lets it reach so far tells a fault
  not_faulty : (pointers generations : ℕ → ℕ) (l : Locator) (payload : List ℕ)
      → l.page + length (F.frame ChunkFrame payload) ≤ limit_in S F pointers generations l
      → limit_in S F pointers generations l ≤ S.pages → Stand S F img l.extent l.page (F.frame ChunkFrame payload)
      → is_meant S l.mark (F.frame ChunkFrame payload) ≡ true → is_long_frame F (F.frame ChunkFrame payload) ≡ true
      → fault_for S F ChunkFrame l.mark (pages_from S F img l.extent l.page (limit_in S F pointers generations l - l.page)) ≡ None
  not_faulty pointers generations l payload within low stand meant long =
      none_for S F format img l.extent l.page (limit_in S F pointers generations l - l.page) ChunkFrame payload l.mark
      (omega arith) (omega arith) stand meant long

  module _ (fits : (e : ℕ) → p e ≤ S.pages) (also : (e : ℕ) → q e ≤ S.pages) where
    same_reading : (ls : List Locator) (v w : Content)
        → ((l : Locator) → l ∈ ls → limit_in S F p g l ≡ limit_in S F q k l)
        → ReadsAs S F (opening_in S F img p g) img p g ls v
        → ReadsAs S F (opening_in S F img q k) img q k ls w → v ≡ w
    same_reading [] v w same a b = a ∙ sym b
    same_reading (l ∷ ls) v w same (inl a) (inl b) = a.4
        ∙ ap₂ (λ (c : List ℕ) (r : Content). after (F.body c) r)
        (format.one_payload img l.extent l.page ChunkFrame a.0 b.0 (let x = a.2.inside in omega arith)
        (let x = b.2.inside in omega arith) a.2.stand b.2.stand)
        (same_reading ls a.1 b.1 (λ x has. same x (inr has)) a.3 b.3)
        ∙ sym b.4
    same_reading (l ∷ ls) v w same (inl a) (inr b) = absurd
        (let e : None ≡ Some b.0 = sym (not_faulty q k l a.0 (le_trans a.2.within (le_of_eq (same l (inl refl))))
        (limit_low S F q k also l) a.2.stand a.2.marked a.2.long) ∙ faulty q k l b.0 b.1 in cc)
    same_reading (l ∷ ls) v w same (inr a) (inl b) = absurd
        (let e : None ≡ Some a.0 = sym (not_faulty p g l b.0 (le_trans b.2.within (le_of_eq (sym (same l (inl refl)))))
        (limit_low S F p g fits l) b.2.stand b.2.marked b.2.long) ∙ faulty p g l a.0 a.1 in cc)
    same_reading (l ∷ ls) v w same (inr a) (inr b) =
        let one : a.0 ≡ b.0 = (let e : Some a.0 ≡ Some b.0 = sym (faulty p g l a.0 a.1)
        ∙ ap (λ (n : ℕ). fault_for S F ChunkFrame l.mark (pages_from S F img l.extent l.page (n - l.page))) (same l (inl refl))
        ∙ faulty q k l b.0 b.1 in cc) in a.2 ∙ ap Damaged one ∙ sym b.2

    same_value : (o : Option (List Locator)) (v w : Option Content)
        → ((l : Locator) → l ∈ live o → limit_in S F p g l ≡ limit_in S F q k l)
        → Value S F (opening_in S F img p g) img p g o v
        → Value S F (opening_in S F img q k) img q k o w → v ≡ w
    same_value None v w same a b = a ∙ sym b
    same_value (Some []) v w same a b = a ∙ sym b
    same_value (Some (l ∷ ls)) v w same a b = a.2
        ∙ ap (λ (c : Content). Some c) (same_reading (l ∷ ls) a.0 b.0 same a.1 b.1) ∙ sym b.2

  pub same_entries : (xs ys : List Run) → places xs ≡ places ys → ((r : Run) → r ∈ xs → F.fits_run r.entries ≡ true)
      → ((r : Run) → r ∈ ys → F.fits_run r.entries ≡ true)
      → ((r : Run) → r ∈ xs
      → Reads S F (opening_in S F img p g) img p g r.place (F.frame RunFrame (F.run r.entries)))
      → ((r : Run) → r ∈ ys → Reads S F (opening_in S F img q k) img q k r.place (F.frame RunFrame (F.run r.entries)))
      → entries_of xs ≡ entries_of ys
  same_entries [] [] same fx fy a b = refl
  same_entries [] (y ∷ ys) same fx fy a b = absurd (let e : [] ≡ y.place ∷ places ys = same in cc)
  same_entries (x ∷ xs) [] same fx fy a b = absurd (let e : x.place ∷ places xs ≡ [] = same in cc)
  same_entries (x ∷ xs) (y ∷ ys) same fx fy a b =
      let here : x.place ≡ y.place = (let e : x.place ∷ places xs ≡ y.place ∷ places ys = same in cc) in
      let rest : places xs ≡ places ys = (let e : x.place ∷ places xs ≡ y.place ∷ places ys = same in cc) in
      let moved : Stand S F img y.place.extent y.place.page (F.frame RunFrame (F.run x.entries)) = subst
      (λ (l : Locator). Stand S F img l.extent l.page (F.frame RunFrame (F.run x.entries))) here
      (a x (inl refl)).stand in
      ap₂ (λ (es fs : List Entry). es ++ fs)
      (format.one_run x.entries y.entries (fx x (inl refl)) (fy y (inl refl))
      (format.one_payload img y.place.extent y.place.page RunFrame (F.run x.entries) (F.run y.entries)
      (let i = (a x (inl refl)).inside in omega arith) (let i = (b y (inl refl)).inside in omega arith) moved
      (b y (inl refl)).stand))
      (same_entries xs ys rest (λ r has. fx r (inr has)) (λ r has. fy r (inr has)) (λ r has. a r (inr has))
      (λ r has. b r (inr has)))

pub one_recovery : (S : Shape) (F : Formats) → IsShape S → IsFormat S F → (img : ℕ → Page) (n k : ℕ) (m o : Map)
    → Recovers S F img n m → Recovers S F img k o → (n ≡ k) × ((id : ℕ) → m id ≡ o id)
one_recovery S F shape format img n k m o a b = (
  root.0,
  λ id. same_value S F format img a.pointers a.generations b.pointers b.generations (λ e. (a.extents_fit e).0)
      (λ e. (b.extents_fit e).0) (lookup id (entries_of a.runs)) (m id) (o id) (same_limit id) (a.gives.values id)
      (subst (λ (es : List Entry). Value S F
      (opening_in S F img b.pointers b.generations) img b.pointers b.generations (lookup id es) (o id))
      (sym entries) (b.gives.values id)),
)
  where
    root : (n ≡ k) × (places a.runs ≡ places b.runs)
    root = format.one_root a.version b.version n k (places a.runs) (places b.runs) a.root_fits b.root_fits
        (sym a.root ∙ b.root)

    entries : entries_of a.runs ≡ entries_of b.runs
    entries = same_entries S F format img a.pointers a.generations b.pointers b.generations a.runs b.runs root.1
        a.runs_fit b.runs_fit a.gives.runs_read b.gives.runs_read

    same_pointer : S.fills ≡ true → (e : ℕ) → e < S.extents → a.pointers e ≡ b.pointers e
    same_pointer on e lt = let j = shape.section e in
        format.tells on (a.formats (S.section e)) (b.formats (S.section e)) (S.section e) (a.versions (S.section e))
        (b.versions (S.section e)) (a.recorded (S.section e)) (b.recorded (S.section e)) a.pointers a.generations b.pointers b.generations a.extents_fit b.extents_fit
        (sym (a.superblock (S.section e) j) ∙ b.superblock (S.section e) j) e lt refl

    same_limit : (id : ℕ) (l : Locator) → l ∈ live (lookup id (entries_of a.runs))
        → limit_in S F a.pointers a.generations l ≡ limit_in S F b.pointers b.generations l
    same_limit id l has = limits_agree S F img a.pointers a.generations b.pointers b.generations l here there
        (λ on. same_pointer on l.extent here.inside.0)
      where
        here : Passes S F img a.pointers a.generations l
        here = live_passes S F (opening_in S F img a.pointers a.generations) img a.pointers a.generations [] a.runs m
            a.gives id l has

        there : Passes S F img b.pointers b.generations l
        there = live_passes S F (opening_in S F img b.pointers b.generations) img b.pointers b.generations [] b.runs o
            b.gives id l (subst (λ (es : List Entry). l ∈ live (lookup id es)) entries has)

pub new_store : (S : Shape) (F : Formats) (img : ℕ → Page) → IsNew S F img → Recovers S F img 0 (λ id. None)
new_store S F img new = record {
  formats = λ j. number_of S.format;
  versions = λ j. 1;
  recorded = λ j. 0;
  pointers = λ e. 0;
  generations = λ e. 0;
  superblock = new.superblock;
  version = 1;
  recorded_fit = λ j lt. omega arith;
  runs = [];
  root = new.root;
  root_fits = new.root_fits;
  runs_fit = λ r none. absurd none;
  versions_fit = λ j lt. (le_refl _, new.some_number);
  extents_fit = λ e. (omega arith, omega arith);
  bounds = record {
    some_version = le_refl _;
    version_fits = new.some_number;
    commands_fit = omega arith;
    few_runs = omega arith;
    weight_fits = omega arith;
    chunks_fit = λ id. omega arith;
  };
  gives = record {
    runs_read = λ r none. absurd none;
    table_passes = λ id. tt;
    visible_pass = λ id. tt;
    runs_pass = λ stand r none. absurd none;
    holds = λ id l none. absurd none;
    values = λ id. refl;
  };
}
