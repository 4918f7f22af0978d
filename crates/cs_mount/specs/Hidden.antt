-- What a disk shows of which some pages are hidden, and which page that is where one store was chosen.
use Rattle.std.specs.Prelude.{◌==◌, ◌-◌, ℕ, Bool, false, not, List, Option, Some, None, bytes_eq, if◌then◌else◌}
use Rattle.std.specs.List.{list_any}
use Rattle.cs_disk.specs.Disk.{Image, State, page}
use Rattle.cs_mount.specs.Identities.{identity_said}
use Rattle.cs_mount.specs.Makings.{zero_page}
use Rattle.cs_mount.specs.Repaged.{repaged, repaged_state}

-- the page is one of these
abbrev pub is_among : List ℕ → (page : ℕ) → Bool
is_among pages p = list_any (λ q. q == p) pages

-- the bytes of a page where these pages are hidden: zeros stand for those of a hidden page
abbrev pub hidden_at : List ℕ → (page : ℕ) → List ℕ → List ℕ
hidden_at hidden p bytes = if is_among hidden p then zero_page else bytes

-- an image of which these pages are hidden
abbrev pub without_hidden : List ℕ → Image → Image
without_hidden hidden image = repaged (hidden_at hidden) image

-- a disk of which they are
abbrev pub state_without : List ℕ → State → State
state_without hidden s = repaged_state (hidden_at hidden) s

-- an identity that is said is another one
abbrev pub is_another : (id : List ℕ) → Option (List ℕ) → Bool
is_another id None = false
is_another id (Some said) = not (bytes_eq said id)

-- the page that is hidden where the store of this identity is chosen: the first of page 0 and the last page that says
-- another one, by what these two hold
abbrev pub end_to_hide : (pages : ℕ) → (id : List ℕ) → (zero last : List ℕ) → Option ℕ
end_to_hide pages id zero last =
    if is_another id (identity_said zero) then Some 0 else (if is_another id (identity_said last) then Some (pages - 1) else None)

-- which page that is on a device
abbrev pub page_to_hide : (pages : ℕ) → (id : List ℕ) → Image → Option ℕ
page_to_hide pages id image = end_to_hide pages id (page image 0) (page image (pages - 1))
