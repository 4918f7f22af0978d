use Rattle.std.proofs.Common.{◌∙◌, sym}
use Rattle.cs_script.proofs.Words.{no_word, first_word}
use Rattle.cs_script.proofs.lines.take_word.Goals as goal

pub returns-in_err-start : goal.returns-in_err-start
returns-in_err-start c =
    let none = no_word c.args.text.now (sym c.word_start.ensures ∙ c.in_err-start.was) in
    rw c.from_residual.ensures none

pub returns : goal.returns
returns c =
    let first = first_word c.args.text.now c.in_ok-start.start (sym c.word_start.ensures ∙ c.in_ok-start.was) c.split_at.result.1.now c.split_at.ensures.back c.unwrap_or-end.result (rw c.word_end.ensures at c.unwrap_or-end.ensures) in
    rw (c.split_at-2.ensures.front, c.split_at-2.ensures.back) first
