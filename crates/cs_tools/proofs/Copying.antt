-- Copies of stores.
use Rattle.std.proofs.Common.{◌≡◌, ◌≢◌, ◌∙◌, ◌⊎◌, ◌==◌, ◌<◌, ◌+◌, ℕ, zero, suc, Bool, true, false, true≢false, List, [], ◌∷◌, ◌++◌, Option, None, Some, arith, eq-eqb, eqb-true, get_or, length, map, not, take, inl, inr, refl, sym, ap, subst}
use Rattle.std.proofs.lemmas.List.{length-map, take_more}
use Rattle.std.specs.List.{AllByRecursion}
use Rattle.std.specs.Cmp.Lexicographic.{bytes_decides}
use Rattle.std.specs.Prelude.{Err, bytes_eq, IfErr, IsOk, Ok, Result, if◌then◌else◌}
use Rattle.cs_chunk.specs.Reads.{IsNoAnswer}
use Rattle.cs_core.specs.Lookups.{IsReading}
use Rattle.cs_core.specs.Views.{View}
use Rattle.cs_frame.specs.Bytes.{IsBytes}
use Rattle.cs_frame.specs.declared.identifiers.ShardId.{ShardId}
use Rattle.cs_index.proofs.Numbers.{id_is, same_bytes}
use Rattle.cs_index.specs.State.{id_number}
use Rattle.cs_refusal.specs.declared.refusals.Refusal.{Refusal}
use Rattle.law_machine.specs.Element.{Bytes, Content, Damaged, Map}
use Rattle.law_machine.specs.Lists.{◌∈◌}
use Rattle.law_machine.specs.State.{changed}
use Rattle.cs_store.specs.declared.errors.GetError.{GetError}
use Rattle.cs_store.specs.declared.errors.GetError.TheVariants as get
use Rattle.cs_store.specs.declared.errors.PutError.{PutError}
use Rattle.cs_store.specs.declared.errors.PutError.TheVariants as put
use Rattle.cs_store.specs.declared.errors.SyncError.{SyncError}
use Rattle.cs_store.specs.declared.errors.SyncError.TheVariants as sync
use Rattle.cs_store.specs.Errors.{IsGetRefusal, IsPutRefusal, get_refusal, put_refusal, sync_refusal}
use Rattle.cs_store.specs.Maps.{HasMap}
use Rattle.cs_inspect.specs.Listings.{AreAll, Rising}
use Rattle.cs_tools.specs.Copies.{Agree, HasBytes, HasNothing, NoneDamaged, over, over_all}

-- ---- maps of stores

-- a store of which only reads were asked has the map that it had
pub has_still : {D : Type 0} (old new : View D) → new ≡ record old { disk = new.disk } → (m : Map) → HasMap old m → HasMap new m
has_still {D} old new same m has = subst (λ (v : View D). HasMap v m) (sym same) (record { start = has.start; found = has.found; after = has.after })

-- a map that agrees with the store's is the store's
pub has_agreed : {D : Type 0} (v : View D) (m n : Map) → Agree m n → HasMap v n → HasMap v m
has_agreed v m n agree has = record { start = has.start; found = has.found; after = λ id. sym (agree id) ∙ has.after id }

-- ---- maps that agree

-- the same is under each of these identifiers
abbrev pub AgreeOn : (m n : Map) → List ShardId → Type 0
AgreeOn m n ids = AllByRecursion (λ id. n (id_number id) ≡ m (id_number id)) ids

agree_member : (m n : Map) (ids : List ShardId) (id : ℕ) → id ∈ map id_number ids → AgreeOn m n ids → n id ≡ m id
agree_member m n [] id there each = absurd there
agree_member m n (x ∷ xs) id (inl is) each = subst (λ (k : ℕ). n k ≡ m k) (sym is) each.0
agree_member m n (x ∷ xs) id (inr there) each = agree_member m n xs id there each.1

some_none : {X : Type 0} (o : Option X) (x : X) → o ≡ Some x → o ≢ None
some_none o x some none = let clash : Some x ≡ None = sym some ∙ none in absurd (cc clash)

-- both maps have just these identifiers
pub agree_all : (m n : Map) (ids : List ShardId) → AreAll (λ id. m id ≢ None) (map id_number ids) → AreAll (λ id. n id ≢ None) (map id_number ids) → AgreeOn m n ids → Agree m n
agree_all m n ids of_m of_n each id = go (m id) refl (n id) refl
  where
    go : (c : Option Content) → m id ≡ c → (d : Option Content) → n id ≡ d → n id ≡ m id
    go None none None none' = none' ∙ sym none
    go None none (Some y) some = absurd ((of_m.each id).0 ((of_n.each id).1 (some_none (n id) y some)) none)
    go (Some x) some d is = agree_member m n ids id ((of_m.each id).1 (some_none (m id) x some)) each

-- ---- one identifier more

agree_append : (m n : Map) (xs : List ShardId) (x : ShardId) → AgreeOn m n xs → n (id_number x) ≡ m (id_number x) → AgreeOn m n (xs ++ x ∷ [])
agree_append m n [] x each here = (here, tt)
agree_append m n (y ∷ ys) x each here = (each.0, agree_append m n ys x each.1 here)

pub agree_more : (m n : Map) (ids : List ShardId) (k : ℕ) (d : ShardId) → k < length ids → AgreeOn m n (take k ids) → n (id_number (get_or ids k d)) ≡ m (id_number (get_or ids k d)) → AgreeOn m n (take (k + 1) ids)
agree_more m n ids k d lt each here = subst (AgreeOn m n) (sym (take_more ids k d lt)) (agree_append m n (take k ids) (get_or ids k d) each here)

pub same_more : (xs ys : List ShardId) (k : ℕ) (d : ShardId) → k < length xs → k < length ys → take k xs ≡ take k ys → get_or xs k d ≡ get_or ys k d → take (k + 1) xs ≡ take (k + 1) ys
same_more xs ys k d inside inside' was here =
    take_more xs k d inside ∙ ap (λ (l : List ShardId). l ++ get_or xs k d ∷ []) was ∙ ap (λ (x : ShardId). take k ys ++ x ∷ []) here ∙ sym (take_more ys k d inside')

-- the same bytes were read of both
pub bytes_agree : (x y : Option Content) (read put a b : List ℕ) → b ≡ read → a ≡ put → b ≡ a → y ≡ Some (Bytes read) → x ≡ Some (Bytes put) → y ≡ x
bytes_agree x y read put a b is_b is_a same of_y of_x = of_y ∙ ap (λ (bytes : List ℕ). Some (Bytes bytes)) (sym is_b ∙ same ∙ is_a) ∙ sym of_x

-- ---- what a map has of another one

-- what is put is laid over the map
pub put_over : (n m : Map) (k : ℕ) (bytes : List ℕ) → m k ≡ Some (Bytes bytes) → Agree (over n m k) (changed n (k, Some bytes))
put_over n m k bytes has x = go (x == k) refl
  where
    go : (b : Bool) → (x == k) ≡ b → (if b then Some (Bytes bytes) else n x) ≡ (if b then m x else n x)
    go true test = sym has ∙ ap m (sym (eqb-true x k test))
    go false test = refl

-- one identifier more
over_push : (n m : Map) (ids : List ShardId) (id : ShardId) → over_all n m (ids ++ id ∷ []) ≡ over (over_all n m ids) m (id_number id)
over_push n m [] id = refl
over_push n m (x ∷ xs) id = over_push (over n m (id_number x)) m xs id

pub over_more : {D : Type 0} (v : View D) (n m : Map) (ids : List ShardId) (k : ℕ) (d : ShardId) → k < length ids → HasMap v (over (over_all n m (take k ids)) m (id_number (get_or ids k d))) → HasMap v (over_all n m (take (k + 1) ids))
over_more v n m ids k d lt has =
    subst (λ (l : List ShardId). HasMap v (over_all n m l)) (sym (take_more ids k d lt)) (subst (HasMap v) (sym (over_push n m (take k ids) (get_or ids k d))) has)

over_or : (n m : Map) (ids : List ShardId) (x : ℕ) → (over_all n m ids x ≡ m x) ⊎ ((over_all n m ids x ≡ n x) × (¬ (x ∈ map id_number ids)))
over_or n m [] x = inr (refl, λ there. there)
over_or n m (id ∷ ids) x = go (over_or (over n m (id_number id)) m ids x) (x == id_number id) refl
  where
    go : (over_all n m (id ∷ ids) x ≡ m x) ⊎ ((over_all n m (id ∷ ids) x ≡ over n m (id_number id) x) × (¬ (x ∈ map id_number ids))) → (b : Bool) → (x == id_number id) ≡ b
        → (over_all n m (id ∷ ids) x ≡ m x) ⊎ ((over_all n m (id ∷ ids) x ≡ n x) × (¬ (x ∈ map id_number (id ∷ ids))))
    go (inl is) b test = inl is
    go (inr rest) true test = inl (rest.0 ∙ ap (λ (b : Bool). if b then m x else n x) test)
    go (inr rest) false test = inr (
      rest.0 ∙ ap (λ (b : Bool). if b then m x else n x) test,
      λ there. elim there [
        | inl e ↦ true≢false (sym (eq-eqb x (id_number id) e) ∙ test)
        | inr more ↦ rest.1 more
      ],
    )

-- what a map has under all of its identifiers, over nothing, is that map
pub over_nothing : (n m : Map) (ids : List ShardId) → HasNothing n → AreAll (λ id. m id ≢ None) (map id_number ids) → Agree m (over_all n m ids)
over_nothing n m ids nothing all x = go (over_or n m ids x) (m x) refl
  where
    go : (over_all n m ids x ≡ m x) ⊎ ((over_all n m ids x ≡ n x) × (¬ (x ∈ map id_number ids))) → (c : Option Content) → m x ≡ c → over_all n m ids x ≡ m x
    go (inl is) c has = is
    go (inr rest) None has = rest.0 ∙ nothing x ∙ sym has
    go (inr rest) (Some y) has = absurd (rest.1 ((all.each x).1 (some_none (m x) y has)))

-- ---- whole shards

bytes_there : (m : Map) (id : ℕ) → NoneDamaged m → m id ≢ None → HasBytes m id
bytes_there m id whole there = go (m id) refl
  where
    go : (c : Option Content) → m id ≡ c → HasBytes m id
    go None is = absurd (there is)
    go (Some (Bytes bytes)) is = (bytes, is)
    go (Some (Damaged f)) is = absurd (whole id f is)

pub all_bytes : (m : Map) (ids : List ShardId) → NoneDamaged m → ((id : ℕ) → id ∈ map id_number ids → m id ≢ None) → AllByRecursion (λ id. HasBytes m (id_number id)) ids
all_bytes m [] whole there = tt
all_bytes m (id ∷ ids) whole there = (bytes_there m (id_number id) whole (there (id_number id) (inl refl)), all_bytes m ids whole (λ x more. there x (inr more)))

-- a get of bytes is refused by the device or by memory alone
pub bytes_got : (m : Map) (id : ℕ) (r : Refusal) → HasBytes m id → IsReading (m id) (Err r) → IsNoAnswer r
bytes_got m id r has (inl none) = none.1
bytes_got m id r has (inr damaged) = let clash : Some (Bytes has.0) ≡ Some (Damaged damaged.0) = sym has.1 ∙ damaged.2 in absurd (cc clash)

-- and bytes are found
pub bytes_found : (m : Map) (id : ℕ) → HasBytes m id → m id ≢ None
bytes_found m id has = some_none (m id) (Bytes has.0) has.1

abbrev bytes_in : Option Content → List ℕ
bytes_in (Some (Bytes bytes)) = bytes
bytes_in (Some (Damaged f)) = []
bytes_in None = []

-- what was read of both is the same
pub same_read : (c : Option Content) (read put a b : List ℕ) → b ≡ read → a ≡ put → c ≡ Some (Bytes read) → c ≡ Some (Bytes put) → b ≡ a
same_read c read put a b is_b is_a of_read of_put = is_b ∙ ap bytes_in (sym of_read ∙ of_put) ∙ sym is_a

-- what is ok isn't refused
pub ok_ends : {T E : Type 0} (P : E → Type 0) (r : Result T E) → IsOk r → IfErr r P
ok_ends P (Ok x) is = tt
ok_ends P (Err e) is = let clash : false ≡ true = is in absurd (cc clash)

-- ---- the same identifiers

above_all : (x : ℕ) (xs : List ℕ) → Rising (x ∷ xs) → (y : ℕ) → y ∈ xs → x < y
above_all x [] rising y there = absurd there
above_all x (z ∷ zs) rising y (inl is) = subst (λ (n : ℕ). x < n) (sym is) rising.0
above_all x (z ∷ zs) rising y (inr more) = let above : z < y = above_all z zs rising.1 y more in let step : x < z = rising.0 in omega (arith, above, step)

rising_tail : (x : ℕ) (xs : List ℕ) → Rising (x ∷ xs) → Rising xs
rising_tail x [] rising = tt
rising_tail x (y ∷ ys) rising = rising.1

-- of two lists that rise and have the same elements, the first is the same
first_same : (x y : ℕ) (xs ys : List ℕ) → Rising (x ∷ xs) → Rising (y ∷ ys) → x ∈ (y ∷ ys) → y ∈ (x ∷ xs) → x ≡ y
first_same x y xs ys rising rising' (inl is) there = is
first_same x y xs ys rising rising' (inr more) (inl is) = sym is
first_same x y xs ys rising rising' (inr more) (inr more') =
    let above : y < x = above_all y ys rising' x more in
    let below : x < y = above_all x xs rising y more' in
    absurd (omega (arith, above, below))

rest_there : (x z : ℕ) (xs ys : List ℕ) → Rising (x ∷ xs) → z ∈ xs → z ∈ (x ∷ ys) → z ∈ ys
rest_there x z xs ys rising there (inr more) = more
rest_there x z xs ys rising there (inl is) = let above : x < z = above_all x xs rising z there in absurd (omega (arith, above, is))

rising_same : (xs ys : List ℕ) → Rising xs → Rising ys → ((z : ℕ) → z ∈ xs → z ∈ ys) → ((z : ℕ) → z ∈ ys → z ∈ xs) → xs ≡ ys
rising_same [] [] rising rising' f g = refl
rising_same [] (y ∷ ys) rising rising' f g = absurd (g y (inl refl))
rising_same (x ∷ xs) [] rising rising' f g = absurd (f x (inl refl))
rising_same (x ∷ xs) (y ∷ ys) rising rising' f g =
    let is : x ≡ y = first_same x y xs ys rising rising' (f x (inl refl)) (g y (inl refl)) in
    let up : Rising (x ∷ ys) = subst (λ (n : ℕ). Rising (n ∷ ys)) (sym is) rising' in
    let rest : xs ≡ ys = rising_same xs ys (rising_tail x xs rising) (rising_tail y ys rising')
    (λ z there. rest_there x z xs ys rising there (subst (λ (n : ℕ). z ∈ (n ∷ ys)) (sym is) (f z (inr there))))
    (λ z there. rest_there x z ys xs up there (g z (inr there))) in
    ap (λ (l : List ℕ). x ∷ l) rest ∙ ap (λ (n : ℕ). n ∷ ys) is

pub listed_same : (m : Map) (xs ys : List ℕ) → AreAll (λ id. m id ≢ None) xs → AreAll (λ id. m id ≢ None) ys → xs ≡ ys
listed_same m xs ys all all' = rising_same xs ys all.rising all'.rising (λ z there. (all'.each z).1 ((all.each z).0 there)) (λ z there. (all.each z).1 ((all'.each z).0 there))

abbrev first_of : List ℕ → ℕ
first_of [] = 0
first_of (x ∷ xs) = x

abbrev rest_of : List ℕ → List ℕ
rest_of [] = []
rest_of (x ∷ xs) = xs

pub numbers_at : (xs ys : List ShardId) (k : ℕ) (d : ShardId) → k < length ys → map id_number xs ≡ map id_number ys → id_number (get_or xs k d) ≡ id_number (get_or ys k d)
numbers_at [] [] k d lt same = absurd (omega (arith, lt))
numbers_at [] (y ∷ ys) k d lt same = let none : [] ≡ id_number y ∷ map id_number ys = same in absurd (cc none)
numbers_at (x ∷ xs) [] k d lt same = absurd (omega (arith, lt))
numbers_at (x ∷ xs) (y ∷ ys) zero d lt same = ap first_of same
numbers_at (x ∷ xs) (y ∷ ys) (suc k) d lt same = numbers_at xs ys k d (omega (arith, lt)) (ap rest_of same)

pub length_same : (xs ys : List ShardId) → map id_number xs ≡ map id_number ys → length xs ≡ length ys
length_same xs ys same = sym (length-map xs id_number) ∙ ap length same ∙ length-map ys id_number

-- ---- refusals

pub put_may : (e : PutError) → IsPutRefusal (put_refusal e)
put_may put.DeviceFault = tt
put_may put.OutOfMemory = tt
put_may put.Full = tt
put_may put.TooLarge = tt
put_may put.IndexFull = tt
put_may put.WornOut = tt
put_may put.Reserved = tt
put_may put.Halted = tt
put_may put.HistoryFull = tt

pub sync_may : (e : SyncError) → IsPutRefusal (sync_refusal e)
sync_may sync.DeviceFault = tt
sync_may sync.OutOfMemory = tt
sync_may sync.Full = tt
sync_may sync.WornOut = tt
sync_may sync.Halted = tt

pub get_may : (e : GetError) → IsGetRefusal (get_refusal e)
get_may get.DeviceFault = tt
get_may get.OutOfMemory = tt
get_may get.BadMagic = tt
get_may get.BadDigest = tt
get_may get.BadLength = tt
get_may get.BadPadding = tt
get_may get.BadVersion = tt
get_may get.Misplaced = tt

-- identifiers with one number are the same
pub ids_differ : (a b : ShardId) (xs ys : List ℕ) (differs : Bool) → xs ≡ a.0 → length xs ≡ 16 → IsBytes xs → ys ≡ b.0 → length ys ≡ 16 → IsBytes ys → differs ≡ not (bytes_eq a.0 b.0) → differs ≡ true → id_number a ≢ id_number b
ids_differ a b xs ys differs is_a size_a bytes_a is_b size_b bytes_b ne is same =
    let equal : bytes_eq a.0 b.0 ≡ true = (bytes_decides a.0 b.0).1 (same_bytes a b (id_is a xs is_a size_a bytes_a) (id_is b ys is_b size_b bytes_b) same) in
    true≢false (sym is ∙ ne ∙ ap not equal)
