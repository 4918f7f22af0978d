-- Where everything lies on the device, for a superblock of any number of sections.
use Rattle.std.specs.Prelude.{◌≡◌, ◌+◌, ◌*◌, ◌-◌, ◌/◌, ◌%◌, ◌<◌, ◌≤◌, ◌^◌, ◌==◌, ℕ, zero, suc, Bool, true, false, List, [], slice_index, take, nat_le, nat_lt, if◌then◌else◌}
use Rattle.law_machine.specs.Device.{FramePage, Page, RootPage, SectionPage, Shape}
use Rattle.law_machine.specs.Format.{Format, Four, Two}
use Rattle.law_machine.specs.Meant.{Mark}
pub use Rattle.law_machine.specs.Pieces.{chunk_bytes_in, head_bytes_in, piece_bytes_in}

-- The rules that a format goes by.
-- In format 4 a root needs all page writes. In format 2 a version of the superblock needs the page writes that it counts
abbrev pub pages_first_in : Format → Bool
pages_first_in Two = true
pages_first_in (Four store device) = false

-- an entry of a run that a newer one hides names what is there
abbrev pub hidden_stand_in : Format → Bool
hidden_stand_in Two = true
hidden_stand_in (Four store device) = false

-- in format 4 a Stage merges the newest runs by their sizes
abbrev pub by_size_in : Format → Bool
by_size_in Two = false
by_size_in (Four store device) = true

-- chunks and runs lie apart
abbrev pub apart_in : Format → Bool
apart_in Two = false
apart_in (Four store device) = true

-- an extent that was found with pages is filled up after them
abbrev pub fills_in : Format → Bool
fills_in Two = false
fills_in (Four store device) = true

-- a locator has the mark of the frame that it means
abbrev pub marks_in : Format → Bool
marks_in Two = false
marks_in (Four store device) = true

-- a chunk's payload has a head
abbrev pub heads_in : Format → Bool
heads_in Two = false
heads_in (Four store device) = true

-- a version of a section of the superblock records the root that was persistent as it was staged
abbrev pub records_in : Format → Bool
records_in Two = false
records_in (Four store device) = true

-- the root and each section of the superblock lie on two pages
abbrev pub twins_in : Format → Bool
twins_in Two = false
twins_in (Four store device) = true

-- the first eight bytes of the store's identity, which each chunk and each run has; none in format 2
abbrev pub store_front : Format → List ℕ
store_front Two = []
store_front (Four store device) = take 8 store

-- the number in so many bytes from one on, high byte first
abbrev pub number_at : (first count : ℕ) → List ℕ → ℕ
number_at first zero bytes = 0
number_at first (suc count) bytes = slice_index bytes first * 256 ^ count + number_at (suc first) count bytes

-- the first eight bytes of the digest in the first page of a frame, as a number
abbrev pub digest_number : Page → ℕ
digest_number page = number_at 9 8 page % 18446744073709551616

-- which is a frame's mark, and 0 in a format that has no marks
abbrev pub mark_in : Format → Page → Mark
mark_in Two page = 0
mark_in (Four store device) page = digest_number page

abbrev pub greatest_mark_in : Format → ℕ
greatest_mark_in Two = 0
greatest_mark_in (Four store device) = 18446744073709551615

-- what an entry of so many chunks weighs: in format 4 as many bytes as it takes. In format 2 each takes 81 bytes of a
-- run, and weighs one
abbrev pub weigh_in : (format : Format) (chunks : ℕ) → ℕ
weigh_in Two chunks = 1
weigh_in (Four store device) chunks = 17 + 16 * chunks

-- what the entries of a run may weigh that takes one whole extent. A frame's header has 41 bytes, and a run's count 4.
-- Before the count format 4 has 8 bytes of the store's identity
abbrev pub most_weight_in : (format : Format) (pages : ℕ) → ℕ
most_weight_in Two pages = (4096 * pages - 45) / 81
most_weight_in (Four store device) pages = 4096 * pages - 53

-- how many runs a root may have
abbrev pub most_runs_in : Format → ℕ
most_runs_in Two = 4
most_runs_in (Four store device) = 24

-- how many extents may hold runs where they do
abbrev pub most_run_extents : (extents : ℕ) → ℕ
most_run_extents extents = if nat_le 16 extents then 2 else 1

-- where chunks and runs lie apart there are two extents beside those that may hold runs
abbrev pub HasExtentsApart : (extents : ℕ) (format : Format) → Type 0
HasExtentsApart extents format = apart_in format ≡ true → most_run_extents extents + 2 ≤ extents

-- section 0 is on page 0, the root on page 1, the extents begin at page 2, and after them are the other sections
abbrev pub shape_of : (extents pages sections per_section : ℕ) (format : Format) → Shape
shape_of extents pages sections per_section format = record {
  extents = extents;
  pages = pages;
  sections = sections;
  format = format;
  pages_first = pages_first_in format;
  hidden_stand = hidden_stand_in format;
  by_size = by_size_in format;
  apart = apart_in format;
  run_extents = most_run_extents extents;
  fills = fills_in format;
  mark = mark_in format;
  greatest_mark = greatest_mark_in format;
  kind = λ p. if p == 0 then SectionPage 0 else if p == 1 then RootPage
      else if nat_lt p (2 + extents * pages) then FramePage else SectionPage (p - (1 + extents * pages));
  root_page = 1;
  section_page = λ j. if j == 0 then 0 else 1 + extents * pages + j;
  extent = λ p. (p - 2) / pages;
  index = λ p. (p - 2) % pages;
  address = λ e i. 2 + (e * pages + i);
  section = λ e. if nat_lt e extents then e / per_section else 0;
  chunk_bytes = chunk_bytes_in format pages;
  piece_bytes = piece_bytes_in format pages;
  most_chunks = 8;
  most_runs = most_runs_in format;
  weigh = weigh_in format;
  most_weight = most_weight_in format pages;
  greatest_number = 9223372036854775807;
  greatest_generation = 4294967295;
}

-- there is a page and a section, and each extent belongs to a section
pub record IsGeometry (extents pages sections per_section : ℕ) : Type 0 where
  pub some_page : 0 < pages
  pub some_section : 0 < sections
  pub some_extent : 0 < per_section
  pub all : extents ≤ sections * per_section
