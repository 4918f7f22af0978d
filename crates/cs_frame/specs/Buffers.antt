-- What a page that is being written has so far.
use Rattle.std.specs.Prelude.{List, ℕ, take}
use Rattle.cs_frame.specs.declared.pages.PageBuffer.{PageBuffer}

-- what was written to a page so far
abbrev pub text_of : PageBuffer → List ℕ
text_of page = take page.len page.bytes
