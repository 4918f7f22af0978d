-- The identifier of a text, as it is read.
use Rattle.std.proofs.Common.{◌≡◌, ℕ, false, true, List, Some, None, refl, sym}
use Rattle.std.specs.Prelude.{Option, Result, Ok, Err, IfOk, IsOk, ◌↔◌, option_map}
use Rattle.std.specs.Result.{result_ok}
use Rattle.uuid.specs.Text.{parsed}
use Rattle.cs_frame.specs.declared.identifiers.ShardId.{ShardId}

pub id_read : {E : Type 0} (text : List ℕ) (r : Result ShardId E) → (IsOk r ↔ ((u : List ℕ) × (parsed text ≡ Some u))) → IfOk r (λ id. Some id.0 ≡ parsed text)
    → option_map (λ (id : ShardId). id.0) (result_ok r) ≡ parsed text
id_read text (Ok id) is h = h
id_read text (Err e) is h = go (parsed text) refl
  where
    go : (found : Option (List ℕ)) → parsed text ≡ found → None ≡ parsed text
    go None same = sym same
    go (Some u) same = let no : false ≡ true = is.1 (u, same) in cc no
