-- Readers of bytes: what they take, what they read again, and where they end.
use Rattle.std.proofs.Common.{◌≡◌, ◌≢◌, ◌⊎◌, ◌∙◌, ℕ, Bool, true, false, cond, List, [], ◌∷◌, ◌++◌, Result, Ok, Err, refl, sym, ap, inl, inr, append_assoc, eqb, rules}
use Rattle.std.proofs.lemmas.Bool.{eqb-true}
use Rattle.cs_resp.specs.declared.faults.Fault.{Fault}
use Rattle.cs_resp.specs.declared.faults.End.{End}
use Rattle.cs_resp.specs.declared.faults.End.TheVariants.{More, Wrong}
use Rattle.cs_resp.specs.Reading.{◌>>=◌, byte_at}

-- the value of a step that did not end
pub bind_ok : {A B : Type 0} (r : Result A End) (f : A → Result B End) (y : B) → (r >>= f) ≡ Ok y → (x : A) × (r ≡ Ok x) × (f x ≡ Ok y)
bind_ok (Ok x) f y e = (x, refl, e)
bind_ok (Err d) f y e = absurd cc

-- which step ended
pub bind_err : {A B : Type 0} (r : Result A End) (f : A → Result B End) (e : End) → (r >>= f) ≡ Err e → (r ≡ Err e) ⊎ ((x : A) × (r ≡ Ok x) × (f x ≡ Err e))
bind_err (Ok x) f e h = inr (x, refl, h)
bind_err (Err d) f e h = let same : d ≡ e = cc in inl (ap Err same)

-- which way a test went
pub chosen : {A : Type 0} (b : Bool) (x y z : A) → cond b x y ≡ z → ((b ≡ true) × (x ≡ z)) ⊎ ((b ≡ false) × (y ≡ z))
chosen true x y z e = inl (refl, e)
chosen false x y z e = inr (refl, e)

abbrev pub done : {A : Type 0} → A → Result A End
done x = Ok x

abbrev pub ended : {A : Type 0} → End → Result A End
ended e = Err e

pub ok_is : {A : Type 0} (x y : A) → done x ≡ done y → x ≡ y
ok_is x y e = cc

abbrev paired : {A : Type 0} → A → List ℕ → A × List ℕ
paired a rest = (a, rest)

-- the parts of what was read
pub same_parts : {A : Type 0} (a b : A) (x y : List ℕ) → done (paired a x) ≡ done (paired b y) → (a ≡ b) × (x ≡ y)
same_parts {A} a b x y e = let is = ok_is (paired a x) (paired b y) e in (ap (λ (p : A × List ℕ). p.0) is, ap (λ (p : A × List ℕ). p.1) is)

some_append : (xs ys : List ℕ) → xs ≢ [] → xs ++ ys ≢ []
some_append [] ys h e = absurd (h refl)
some_append (x ∷ xs) ys h e = absurd cc

-- A reader of one text: it takes the text, and nothing else.
pub record Skips (read : List ℕ → Result (List ℕ) End) (text : List ℕ) : Type 0 where
  pub takes : (bytes rest : List ℕ) → read bytes ≡ Ok rest → bytes ≡ text ++ rest
  pub again : (rest : List ℕ) → read (text ++ rest) ≡ Ok rest
  pub more : (bytes : List ℕ) → read bytes ≡ Err More → (tail : List ℕ) × (tail ≢ []) × (bytes ++ tail ≡ text)
  pub stays : (bytes tail : List ℕ) (fault : Fault) → read bytes ≡ Err (Wrong fault) → read (bytes ++ tail) ≡ Err (Wrong fault)

-- A reader of values: it takes a text that spells the value, reads each of these texts, asks for more at their beginnings, and stays with its faults.
pub record Reads {A : Type 0} (read : List ℕ → Result (A × List ℕ) End) (Spells : A → List ℕ → Type 0) : Type 0 where
  pub takes : (bytes : List ℕ) (x : A × List ℕ) → read bytes ≡ Ok x → (text : List ℕ) × Spells x.0 text × (bytes ≡ text ++ x.1)
  pub again : (a : A) (text rest : List ℕ) → Spells a text → read (text ++ rest) ≡ Ok (a, rest)
  pub more : (bytes : List ℕ) → read bytes ≡ Err More → (a : A) × (text tail : List ℕ) × Spells a text × (tail ≢ []) × (bytes ++ tail ≡ text)
  pub stays : (bytes tail : List ℕ) (fault : Fault) → read bytes ≡ Err (Wrong fault) → read (bytes ++ tail) ≡ Err (Wrong fault)
  pub some : (a : A) × (text : List ℕ) × Spells a text

-- one byte
byte_takes : (b : ℕ) (fault : Fault) (bytes rest : List ℕ) → byte_at b fault bytes ≡ Ok rest → bytes ≡ b ∷ rest
byte_takes b fault [] rest e = absurd cc
byte_takes b fault (x ∷ xs) rest e = by_test (chosen (eqb x b) (done xs) (Err (Wrong fault)) (Ok rest) e)
  where
    by_test : ((eqb x b ≡ true) × (done xs ≡ Ok rest)) ⊎ ((eqb x b ≡ false) × (Err (Wrong fault) ≡ done rest)) → x ∷ xs ≡ b ∷ rest
    by_test (inl (test, is)) = let same : x ≡ b = eqb-true x b test in cc
    by_test (inr (test, is)) = absurd cc

same_byte : (b : ℕ) → eqb b b ≡ true
same_byte b = search rules

byte_again : (b : ℕ) (fault : Fault) (rest : List ℕ) → byte_at b fault (b ∷ rest) ≡ Ok rest
byte_again b fault rest = rw (same_byte b) refl

byte_more : (b : ℕ) (fault : Fault) (bytes : List ℕ) → byte_at b fault bytes ≡ Err More → (tail : List ℕ) × (tail ≢ []) × (bytes ++ tail ≡ b ∷ [])
byte_more b fault [] e = (b ∷ [], (λ e. absurd cc), refl)
byte_more b fault (x ∷ xs) e = by_test (chosen (eqb x b) (done xs) (Err (Wrong fault)) (Err More) e)
  where
    by_test : ((eqb x b ≡ true) × (done xs ≡ Err More)) ⊎ ((eqb x b ≡ false) × (ended {A = List ℕ} (Wrong fault) ≡ Err More)) → (tail : List ℕ) × (tail ≢ []) × ((x ∷ xs) ++ tail ≡ b ∷ [])
    by_test (inl (test, is)) = absurd cc
    by_test (inr (test, is)) = absurd cc

byte_stays : (b : ℕ) (fault : Fault) (bytes tail : List ℕ) (other : Fault) → byte_at b fault bytes ≡ Err (Wrong other) → byte_at b fault (bytes ++ tail) ≡ Err (Wrong other)
byte_stays b fault [] tail other e = absurd cc
byte_stays b fault (x ∷ xs) tail other e = by_test (eqb x b) e
  where
    by_test : (t : Bool) → cond t (done xs) (Err (Wrong fault)) ≡ Err (Wrong other) → cond t (done (xs ++ tail)) (Err (Wrong fault)) ≡ Err (Wrong other)
    by_test true h = absurd cc
    by_test false h = h

pub byte_skips : (b : ℕ) (fault : Fault) → Skips (byte_at b fault) (b ∷ [])
byte_skips b fault = record { takes = byte_takes b fault; again = byte_again b fault; more = byte_more b fault; stays = byte_stays b fault }

-- one text after another
module _ (r : List ℕ → Result (List ℕ) End) (t : List ℕ) (s : List ℕ → Result (List ℕ) End) (u : List ℕ) (first : Skips r t) (second : Skips s u) where
  both_skip : List ℕ → Result (List ℕ) End
  both_skip bytes = r bytes >>= s

  skip_skip_takes : (bytes rest : List ℕ) → (r bytes >>= s) ≡ Ok rest → bytes ≡ (t ++ u) ++ rest
  skip_skip_takes bytes rest h =
      let b = bind_ok (r bytes) s rest h in
      first.takes bytes b.0 b.1 ∙ ap (λ (x : List ℕ). t ++ x) (second.takes b.0 rest b.2) ∙ sym (append_assoc t u rest)

  skip_skip_again : (rest : List ℕ) → (r ((t ++ u) ++ rest) >>= s) ≡ Ok rest
  skip_skip_again rest = ap (λ (x : List ℕ). r x >>= s) (append_assoc t u rest) ∙ ap (λ (x : Result (List ℕ) End). x >>= s) (first.again (u ++ rest)) ∙ second.again rest

  skip_skip_more : (bytes : List ℕ) → (r bytes >>= s) ≡ Err More → (tail : List ℕ) × (tail ≢ []) × (bytes ++ tail ≡ t ++ u)
  skip_skip_more bytes h = by_step (bind_err (r bytes) s More h)
    where
      by_step : (r bytes ≡ Err More) ⊎ ((x : List ℕ) × (r bytes ≡ Ok x) × (s x ≡ Err More)) → (tail : List ℕ) × (tail ≢ []) × (bytes ++ tail ≡ t ++ u)
      by_step (inl e) = let m = first.more bytes e in (m.0 ++ u, some_append m.0 u m.1, sym (append_assoc bytes m.0 u) ∙ ap (λ (x : List ℕ). x ++ u) m.2)
      by_step (inr (x, e, f)) =
          let m = second.more x f in
          (m.0, m.1, ap (λ (y : List ℕ). y ++ m.0) (first.takes bytes x e) ∙ append_assoc t x m.0 ∙ ap (λ (y : List ℕ). t ++ y) m.2)

  skip_skip_stays : (bytes tail : List ℕ) (fault : Fault) → (r bytes >>= s) ≡ Err (Wrong fault) → (r (bytes ++ tail) >>= s) ≡ Err (Wrong fault)
  skip_skip_stays bytes tail fault h = by_step (bind_err (r bytes) s (Wrong fault) h)
    where
      by_step : (r bytes ≡ Err (Wrong fault)) ⊎ ((x : List ℕ) × (r bytes ≡ Ok x) × (s x ≡ Err (Wrong fault))) → (r (bytes ++ tail) >>= s) ≡ Err (Wrong fault)
      by_step (inl e) = ap (λ (x : Result (List ℕ) End). x >>= s) (first.stays bytes tail fault e)
      by_step (inr (x, e, f)) =
          ap (λ (y : List ℕ). r y >>= s) (ap (λ (y : List ℕ). y ++ tail) (first.takes bytes x e) ∙ append_assoc t x tail)
          ∙ ap (λ (y : Result (List ℕ) End). y >>= s) (first.again (x ++ tail)) ∙ second.stays x tail fault f

  pub skip_skip : Skips (λ bytes. r bytes >>= s) (t ++ u)
  skip_skip = record { takes = skip_skip_takes; again = skip_skip_again; more = skip_skip_more; stays = skip_skip_stays }

-- a text, and then a value
module _ {A : Type 0} (r : List ℕ → Result (List ℕ) End) (t : List ℕ) (s : List ℕ → Result (A × List ℕ) End) (P : A → List ℕ → Type 0) (first : Skips r t) (second : Reads s P) where
  abbrev Behind : A → List ℕ → Type 0
  Behind a text = (own : List ℕ) × P a own × (text ≡ t ++ own)

  skip_then_takes : (bytes : List ℕ) (y : A × List ℕ) → (r bytes >>= s) ≡ Ok y → (text : List ℕ) × Behind y.0 text × (bytes ≡ text ++ y.1)
  skip_then_takes bytes y h =
      let b = bind_ok (r bytes) s y h in
      let q = second.takes b.0 y b.2 in
      (t ++ q.0, (q.0, q.1, refl), first.takes bytes b.0 b.1 ∙ ap (λ (x : List ℕ). t ++ x) q.2 ∙ sym (append_assoc t q.0 y.1))

  skip_then_again : (a : A) (text rest : List ℕ) → Behind a text → (r (text ++ rest) >>= s) ≡ Ok (a, rest)
  skip_then_again a text rest (own, p, is) =
      ap (λ (x : List ℕ). r x >>= s) (ap (λ (x : List ℕ). x ++ rest) is ∙ append_assoc t own rest) ∙ ap (λ (x : Result (List ℕ) End). x >>= s) (first.again (own ++ rest)) ∙ second.again a own rest p

  skip_then_more : (bytes : List ℕ) → (r bytes >>= s) ≡ Err More → (a : A) × (text tail : List ℕ) × Behind a text × (tail ≢ []) × (bytes ++ tail ≡ text)
  skip_then_more bytes h = by_step (bind_err (r bytes) s More h)
    where
      by_step : (r bytes ≡ Err More) ⊎ ((x : List ℕ) × (r bytes ≡ Ok x) × (s x ≡ Err More)) → (a : A) × (text tail : List ℕ) × Behind a text × (tail ≢ []) × (bytes ++ tail ≡ text)
      by_step (inl e) =
          let m = first.more bytes e in
          let o = second.some in
          (o.0, t ++ o.1, m.0 ++ o.1, (o.1, o.2, refl), some_append m.0 o.1 m.1, sym (append_assoc bytes m.0 o.1) ∙ ap (λ (x : List ℕ). x ++ o.1) m.2)
      by_step (inr (x, e, f)) =
          let m = second.more x f in
          (m.0, t ++ m.1, m.2, (m.1, m.3, refl), m.4, ap (λ (y : List ℕ). y ++ m.2) (first.takes bytes x e) ∙ append_assoc t x m.2 ∙ ap (λ (y : List ℕ). t ++ y) m.5)

  skip_then_stays : (bytes tail : List ℕ) (fault : Fault) → (r bytes >>= s) ≡ Err (Wrong fault) → (r (bytes ++ tail) >>= s) ≡ Err (Wrong fault)
  skip_then_stays bytes tail fault h = by_step (bind_err (r bytes) s (Wrong fault) h)
    where
      by_step : (r bytes ≡ Err (Wrong fault)) ⊎ ((x : List ℕ) × (r bytes ≡ Ok x) × (s x ≡ Err (Wrong fault))) → (r (bytes ++ tail) >>= s) ≡ Err (Wrong fault)
      by_step (inl e) = ap (λ (x : Result (List ℕ) End). x >>= s) (first.stays bytes tail fault e)
      by_step (inr (x, e, f)) =
          ap (λ (y : List ℕ). r y >>= s) (ap (λ (y : List ℕ). y ++ tail) (first.takes bytes x e) ∙ append_assoc t x tail)
          ∙ ap (λ (y : Result (List ℕ) End). y >>= s) (first.again (x ++ tail)) ∙ second.stays x tail fault f

  pub skip_then : Reads (λ bytes. r bytes >>= s) (λ a text. (own : List ℕ) × P a own × (text ≡ t ++ own))
  skip_then = let o = second.some in record { takes = skip_then_takes; again = skip_then_again; more = skip_then_more; stays = skip_then_stays; some = (o.0, t ++ o.1, (o.1, o.2, refl)) }

-- a value, and then one that depends on it
module _ {A B : Type 0} (r : List ℕ → Result (A × List ℕ) End) (P : A → List ℕ → Type 0) (f : A → List ℕ → Result (B × List ℕ) End) (Q : A → B → List ℕ → Type 0) (first : Reads r P) (second : (a : A) → Reads (f a) (Q a)) where
  abbrev on : A × List ℕ → Result (B × List ℕ) End
  on x = f x.0 x.1

  abbrev Both : B → List ℕ → Type 0
  Both b text = (a : A) × (front back : List ℕ) × P a front × Q a b back × (text ≡ front ++ back)

  then_takes : (bytes : List ℕ) (y : B × List ℕ) → (r bytes >>= on) ≡ Ok y → (text : List ℕ) × Both y.0 text × (bytes ≡ text ++ y.1)
  then_takes bytes y h =
      let b = bind_ok (r bytes) on y h in
      let p = first.takes bytes b.0 b.1 in
      let q = (second b.0.0).takes b.0.1 y b.2 in
      (p.0 ++ q.0, (b.0.0, p.0, q.0, p.1, q.1, refl), p.2 ∙ ap (λ (x : List ℕ). p.0 ++ x) q.2 ∙ sym (append_assoc p.0 q.0 y.1))

  then_again : (b : B) (text rest : List ℕ) → Both b text → (r (text ++ rest) >>= on) ≡ Ok (b, rest)
  then_again b text rest (a, front, back, p, q, is) =
      ap (λ (x : List ℕ). r x >>= on) (ap (λ (x : List ℕ). x ++ rest) is ∙ append_assoc front back rest)
      ∙ ap (λ (x : Result (A × List ℕ) End). x >>= on) (first.again a front (back ++ rest) p) ∙ (second a).again b back rest q

  then_more : (bytes : List ℕ) → (r bytes >>= on) ≡ Err More → (b : B) × (text tail : List ℕ) × Both b text × (tail ≢ []) × (bytes ++ tail ≡ text)
  then_more bytes h = by_step (bind_err (r bytes) on More h)
    where
      by_step : (r bytes ≡ Err More) ⊎ ((x : A × List ℕ) × (r bytes ≡ Ok x) × (on x ≡ Err More)) → (b : B) × (text tail : List ℕ) × Both b text × (tail ≢ []) × (bytes ++ tail ≡ text)
      by_step (inl e) =
          let m = first.more bytes e in
          let o = (second m.0).some in
          (o.0, m.1 ++ o.1, m.2 ++ o.1, (m.0, m.1, o.1, m.3, o.2, refl), some_append m.2 o.1 m.4, sym (append_assoc bytes m.2 o.1) ∙ ap (λ (x : List ℕ). x ++ o.1) m.5)
      by_step (inr (x, e, g)) =
          let p = first.takes bytes x e in
          let m = (second x.0).more x.1 g in
          (m.0, p.0 ++ m.1, m.2, (x.0, p.0, m.1, p.1, m.3, refl), m.4, ap (λ (y : List ℕ). y ++ m.2) p.2 ∙ append_assoc p.0 x.1 m.2 ∙ ap (λ (y : List ℕ). p.0 ++ y) m.5)

  then_stays : (bytes tail : List ℕ) (fault : Fault) → (r bytes >>= on) ≡ Err (Wrong fault) → (r (bytes ++ tail) >>= on) ≡ Err (Wrong fault)
  then_stays bytes tail fault h = by_step (bind_err (r bytes) on (Wrong fault) h)
    where
      by_step : (r bytes ≡ Err (Wrong fault)) ⊎ ((x : A × List ℕ) × (r bytes ≡ Ok x) × (on x ≡ Err (Wrong fault))) → (r (bytes ++ tail) >>= on) ≡ Err (Wrong fault)
      by_step (inl e) = ap (λ (x : Result (A × List ℕ) End). x >>= on) (first.stays bytes tail fault e)
      by_step (inr (x, e, g)) =
          let p = first.takes bytes x e in
          ap (λ (y : List ℕ). r y >>= on) (ap (λ (y : List ℕ). y ++ tail) p.2 ∙ append_assoc p.0 x.1 tail)
          ∙ ap (λ (y : Result (A × List ℕ) End). y >>= on) (first.again x.0 p.0 (x.1 ++ tail) p.1) ∙ (second x.0).stays x.1 tail fault g

  pub reads_then : Reads (λ bytes. r bytes >>= λ x. f x.0 x.1) (λ b text. (a : A) × (front back : List ℕ) × P a front × Q a b back × (text ≡ front ++ back))
  reads_then =
      let o = first.some in
      let n = (second o.0).some in
      record { takes = then_takes; again = then_again; more = then_more; stays = then_stays; some = (n.0, o.1 ++ n.1, (o.0, o.1, n.1, o.2, n.2, refl)) }

-- a value that is known, of no bytes
abbrev pub known : {A : Type 0} → A → List ℕ → A × List ℕ
known v bytes = (v, bytes)

pub reads_none : {A : Type 0} (v : A) → Reads (λ bytes. Ok (v, bytes)) (λ a text. (a ≡ v) × (text ≡ []))
reads_none {A} v = record {
  takes = λ bytes x e. let is = ok_is (known v bytes) x e in ([], (sym (ap (λ (y : A × List ℕ). y.0) is), refl), ap (λ (y : A × List ℕ). y.1) is);
  again = λ a text rest h. pair a text rest h.0 h.1;
  more = λ bytes e. absurd cc;
  stays = λ bytes tail fault e. absurd cc;
  some = (v, [], (refl, refl));
}
  where
    pair : (a : A) (text rest : List ℕ) → a ≡ v → text ≡ [] → done (known v (text ++ rest)) ≡ Ok (a, rest)
    pair a text rest e f = rw (e, f) refl

-- the same texts in other words
pub reads_as : {A : Type 0} (r : List ℕ → Result (A × List ℕ) End) (P Q : A → List ℕ → Type 0) → Reads r P → ((a : A) (text : List ℕ) → P a text → Q a text) → ((a : A) (text : List ℕ) → Q a text → P a text) → Reads r Q
reads_as r P Q reads to from = record {
  takes = λ bytes x e. let p = reads.takes bytes x e in (p.0, to x.0 p.0 p.1, p.2);
  again = λ a text rest q. reads.again a text rest (from a text q);
  more = λ bytes e. let m = reads.more bytes e in (m.0, m.1, m.2, to m.0 m.1 m.3, m.4, m.5);
  stays = λ bytes tail fault e. reads.stays bytes tail fault e;
  some = let o = reads.some in (o.0, o.1, to o.0 o.1 o.2);
}
