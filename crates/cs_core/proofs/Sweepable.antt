-- Which extents a sweep may begin with, by the rule of the format.
use Rattle.std.proofs.Common.{◌≡◌, Bool, true, false}
use Rattle.law_machine.specs.Apart.{by_rule}

-- what is so where chunks and runs lie apart is so by rule there
pub so_apart : (b : Bool) (Before Apart : Type 0) → b ≡ true → Apart → by_rule b Before Apart
so_apart true Before Apart rule apart = apart
so_apart false Before Apart rule apart = absurd (let clash : false ≡ true = rule in cc clash)
