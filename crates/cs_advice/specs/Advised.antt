-- What is advised about each refusal, by what is known of the file.
use Rattle.std.specs.Prelude.{◌-◌, ◌*◌, ◌^◌, ℕ, List, [], ◌∷◌, ◌++◌, Option, Some, None, codes, decimal, if◌then◌else◌, min, nat_lt}
use Rattle.cs_refusal.specs.declared.refusals.Refusal.{Refusal}
use Rattle.cs_refusal.specs.declared.refusals.Refusal.TheVariants.{DeviceFault, InFlight, OddLength, BadGeometry, OutOfMemory, BadDocument, BadMagic, BadDigest, BadLength, BadPadding, BadVersion, OutOfOrder, Misplaced, RootLost, Unreadable, Full, TooLarge, IndexFull, NotSweepable, StillLive, WornOut, Reserved, Halted, HistoryFull, NoRound, NotAStore, Unsettled, Occupied, NotEmpty}
use Rattle.cs_disk.specs.declared.fault.SystemFault.{SystemFault}
use Rattle.cs_disk.specs.declared.fault.SystemFault.TheVariants.{Folder, InUse, NoRoom, NotAllowed, NotThere, ReadOnly}
use Rattle.cs_disk.specs.declared.fault.SystemFault.TheVariants as fault
use Rattle.cs_frame.specs.declared.formats.FormatNumber.{FormatNumber}
use Rattle.cs_frame.specs.declared.formats.FormatNumber.TheVariants.{Four, Two}
use Rattle.cs_advice.specs.Outputs.{identity_text, quote}
use Rattle.cs_advice.specs.Members.{member, number_text}
use Rattle.cs_advice.specs.declared.advices.Todo.{Todo}
use Rattle.cs_advice.specs.declared.advices.Todo.TheVariants as todo
use Rattle.cs_advice.specs.declared.knowns.Content.{Content}
use Rattle.cs_advice.specs.declared.knowns.Content.TheVariants.{Broken, Empty, Foreign, Left, Length, Store, Superseded, Torn, TwoStores, Unknown, Written}
use Rattle.cs_advice.specs.declared.knowns.Known.{Known}

-- ---- of a store that is damaged, or isn't opened

-- the first step
abbrev pub doctor_text : List ℕ
doctor_text = codes "First run `doctor FILE`: it only reads, and reports what is there and what to do next. "

-- 20 to 25: of a damaged page
abbrev pub damaged_text : List ℕ
damaged_text = doctor_text ++ codes "A damaged shard: put it again or delete it; others aren't affected. The whole store: restore the file from a copy, or read what is left by `--salvage`. `scrub` lists what is damaged."

-- 26: of a whole frame that isn't the one that its place means
abbrev pub misplaced_text : List ℕ
misplaced_text = doctor_text ++ codes "A write went to a wrong page, or was lost: look to the device, and to what copies the file. A shard: put it again or delete it; others aren't affected. The whole store: restore the file from a copy, or read what is left by `--salvage`. `scrub` lists what is misplaced."

-- 27: of a root that is older than one that was persistent
abbrev pub root_lost_text : List ℕ
root_lost_text = doctor_text ++ codes "The root is older than one that was persistent, so commands that were acknowledged would be lost. Look to the device, and to what copies the file, and restore the file from a copy. `--as-of` reads what is left."

-- 28: of a get that can't know whether there is a shard
abbrev pub run_lost_text : List ℕ
run_lost_text = doctor_text ++ codes "No run of the index that can be read names the shard, and older ones can't be read. `export --salvage` reads the frames themselves, but not in format 2. Else restore the file from a copy."

-- 29: of a page that can't be read and may be the newer one of two
abbrev pub unreadable_text : List ℕ
unreadable_text = doctor_text ++ codes "The store has another copy of the page, and commands that only read go by it. Then `copy` the shards into another file, or add `--accept-loss` to the command, which writes over the page. Either way the commands of the last sync are lost if only the page that can't be read had them."

-- of a repair that stopped
abbrev pub loss_text : List ℕ
loss_text = doctor_text ++ codes "A damaged page may have held a newer root than the one by which the store opens. Copy the file first, or restore it from a newer copy; `export` and `get` read what is there. `scrub --repair --accept-loss` writes the older root over the damaged page."

-- 43: of a file in which a superblock names a store that can't be opened for its other pages
abbrev pub not_whole_text : List ℕ
not_whole_text = doctor_text ++ codes "The file holds a store, but not all of it is there as it was written. Restore the file from a copy, or read what is left by `--salvage`."

-- 43: of a store of format 2 that is read in a way that it hasn't
abbrev pub older_text : List ℕ
older_text = codes "The file holds a store of format 2, of which `--as-of` and `export --salvage` read nothing. Use the command without them, or `list --salvage` and `get --salvage`."

-- of a store of format 2 of whose superblock or root a page isn't whole
abbrev pub broken_text : List ℕ
broken_text = doctor_text ++ codes "A page is damaged that the store needs, and a store of format 2 has no other copy of it: restore the file from a copy."

-- of a store of whose superblock or root neither copy is whole
abbrev pub torn_text : List ℕ
torn_text = doctor_text ++ codes "Neither copy of a page is whole that the store needs. Copy the file before anything else is done with it, and restore it from an older copy; `export --salvage` reads the shards without the root."

-- of a file with a root and no superblock
abbrev pub left_text : List ℕ
left_text = doctor_text ++ codes "The file holds what is left of a store: its root is whole, and no copy of its superblock. Copy it before anything else is done with it, and restore it from an older copy."

-- of a file that holds something else, as far as can be told
abbrev pub foreign_text : List ℕ
foreign_text = doctor_text ++ codes "The file holds no store, or none that can be recognised: look at its name. If it held one, restore it from a copy."

-- of a file that wasn't looked into
abbrev pub no_store_text : List ℕ
no_store_text = doctor_text ++ codes "The file holds no store, or not all of one: look at its name, or restore it from a copy."

-- of a store of format 3
abbrev pub superseded_text : List ℕ
superseded_text = codes "The file holds a store of format 3, which this version doesn't read. Build the commit 8d0b7298936e: its `cs_cli export --file OLD` prints all shards as a script, for `cs_cli run --strict --file NEW` over a store that `cs_cli create NEW` made."

-- of an empty file
abbrev pub make_text : List ℕ
make_text = codes "The file is empty: make a store in it by `cs_cli create` with its name."

-- how many pages a file has, and how many its superblock names
abbrev pub found_text : (pages wanted : ℕ) → List ℕ
found_text pages wanted = number_text (doctor_text ++ codes "The file has ") pages ++ number_text (codes " pages, and its superblock says ") wanted ++ codes ": it is too "

-- by how many pages it is too short or too long
abbrev pub missing_text : (pages wanted : ℕ) → List ℕ
missing_text pages wanted = if nat_lt pages wanted then number_text (codes "short by ") (wanted - pages) else number_text (codes "long by ") (pages - wanted)

-- how a copy of it is brought to so many bytes, and opened with so many pages
abbrev pub longer_text : (bytes wanted : ℕ) → List ℕ
longer_text bytes wanted =
    number_text (codes ". Copy it, `truncate -s ") bytes
    ++ number_text (codes " COPY`, and try again with the copy. If that doesn't open either, `export --salvage` of the copy reads the shards whose frames are there. A device that has grown is opened by `--device-pages ") wanted
    ++ codes "`. In format 2 there is neither."

-- Of a file of so many pages whose superblock names another number: a copy is brought to the bytes of these pages, or to the greatest number of 64 bits.
abbrev pub length_text : (pages wanted : ℕ) → List ℕ
length_text pages wanted = found_text pages wanted ++ missing_text pages wanted ++ longer_text (min (wanted * 4096) (2 ^ 64 - 1)) wanted

-- of a device with pages of the two stores that have these identities
abbrev pub two_text : (first last : List ℕ) → List ℕ
two_text first last =
    codes "The device holds pages of two stores, " ++ identity_text first ++ codes " on page 0 and " ++ identity_text last
    ++ codes " on the last page. Name one by `--id` to read it: nothing is written to such a device."

-- of a device on which a store was to be made: this page isn't zeros
abbrev pub written_text : (page : ℕ) → List ℕ
written_text page = codes "Page " ++ decimal page ++ codes " of the device isn't zeros: something is on it. `--force` makes the store over it."

-- ---- by the refusal

-- 20 to 27, and 43, of which the other text is said
abbrev pub damage_text : Refusal → (other : List ℕ) → List ℕ
damage_text Misplaced other = misplaced_text
damage_text RootLost other = root_lost_text
damage_text NotAStore other = other
damage_text r other = damaged_text

-- 43 of a store of this format
abbrev pub format_text : FormatNumber → List ℕ
format_text Two = older_text
format_text Four = not_whole_text

-- 20 to 27, and 43, by what the file holds
abbrev pub content_text : Content → Refusal → List ℕ
content_text Empty r = make_text
content_text (Length pages wanted) r = length_text pages wanted
content_text (Torn page twin) r = torn_text
content_text Broken r = broken_text
content_text Left r = left_text
content_text Foreign r = foreign_text
content_text (Store format) r = damage_text r (format_text format)
content_text (TwoStores first last) r = two_text first.0 last.0
content_text Superseded r = superseded_text
content_text Unknown r = damage_text r no_store_text
content_text (Written page) r = damage_text r no_store_text

-- 1, by why the system refused a call
abbrev pub system_advice : Option SystemFault → List ℕ
system_advice None = codes "First run `doctor FILE`: it only reads, and reports what can be read. The device failed, or the file can't be used: `ls -l`, `lsof` and `df` tell which."
system_advice (Some NotThere) = codes "Look at the name: `ls -l` of its folder shows what is there."
system_advice (Some NotAllowed) = codes "Ask for the right to read it, and for a command that writes, to write it: `ls -l` shows who has it."
system_advice (Some Folder) = codes "Name a file, not a folder."
system_advice (Some InUse) = codes "Wait for the other process by `--wait SECONDS`; `lsof` with the file's name shows which it is."
system_advice (Some NoRoom) = codes "Free room on the file system (`df`), or raise the limit of a file's size (`ulimit -f`), and try again."
system_advice (Some ReadOnly) = codes "Commands that only read need no more. For others mount the file system so that it can be written, or copy the file."
system_advice (Some fault.Failed) = codes "First run `doctor FILE`: it only reads, and reports what can be read. Look at the system's log (`dmesg`) and at the device. If an extent can't be written, add `--skip-extent E` to the command. If it is another page, commands that only read go on, and `copy` puts the shards into a store on another device."

-- 45, and 46 where no page is known that isn't zeros
abbrev pub occupied_text : List ℕ
occupied_text = codes "Nothing was written. Name another file, or move the one that is there away."

-- 5, 42 and 44: of a script's rounds
abbrev pub rounds_text : List ℕ
rounds_text = codes "The script has the rounds of a sync in another order: `begin`, `issue` until nothing is left, `end`."

-- each other
abbrev pub call_text : Refusal → List ℕ
call_text OddLength = doctor_text ++ codes "The file is cut, has something behind its end, or holds no store. Copy it, and bring the copy to a multiple of 4,096 bytes by `truncate -s /4096 COPY` (down) or `truncate -s %4096 COPY` (up): what is refused then says how many pages its superblock names."
call_text BadGeometry = codes "A store has 5 to 7,680 extents of 2 to 65,535 pages, and 1 to 15 sections of at most 512 extents; one of format 2 has 4 to 2,048 of 2 to 256, and 1 to 8 sections."
call_text OutOfMemory = codes "Give the program more memory, and try again."
call_text BadDocument = codes "The input is no plan document: print one by the line `document` of a script."
call_text Full = codes "`reclaim --for BYTES`, with as many as the shard has, and try again; if that is refused too, `copy` the shards into a larger store."
call_text TooLarge = codes "A shard has at most 8 chunks of an extent each: cut it into several shards, or `copy` all into a store with more pages an extent."
call_text IndexFull = codes "The entries of the index take as many bytes as the store's geometry allows, or in format 2 they are as many: delete some shards and `reclaim`, or `copy` all into a store with more pages an extent."
call_text NotSweepable = codes "No extent can be swept now: put something, and try again."
call_text StillLive = codes "Something lives on the extent still: try again."
call_text WornOut = codes "A number reached its end: `copy` all into a new store."
call_text Reserved = codes "With the shard more pages would be in use than the store's reserve leaves: delete some shards, or give a smaller reserve by `--reserve PERCENT`. Shards that are there already can be put again."
call_text Halted = codes "A write or a flush failed before: open the store again."
call_text HistoryFull = codes "Sync, and try again."
call_text Occupied = occupied_text
call_text NotEmpty = occupied_text
call_text InFlight = rounds_text
call_text NoRound = rounds_text
call_text Unsettled = rounds_text
call_text r = codes "Report it, with what led to it."

-- 46, by what is known of the device
abbrev pub not_empty_text : Content → List ℕ
not_empty_text (Written page) = written_text page
not_empty_text content = occupied_text

-- each
abbrev pub advice_text : Refusal → Known → List ℕ
advice_text DeviceFault known = system_advice known.system
advice_text BadMagic known = content_text known.content BadMagic
advice_text BadDigest known = content_text known.content BadDigest
advice_text BadLength known = content_text known.content BadLength
advice_text BadPadding known = content_text known.content BadPadding
advice_text BadVersion known = content_text known.content BadVersion
advice_text OutOfOrder known = content_text known.content OutOfOrder
advice_text Misplaced known = content_text known.content Misplaced
advice_text RootLost known = content_text known.content RootLost
advice_text NotAStore known = content_text known.content NotAStore
advice_text Unreadable known = unreadable_text
advice_text NotEmpty known = not_empty_text known.content
advice_text r known = call_text r

-- ---- what the advice names, in a JSON object

-- the member with this name of the identity of a store, after a comma
abbrev pub id_member : (name identity : List ℕ) → List ℕ
id_member name identity = 44 ∷ member name ++ quote ∷ identity_text identity ++ quote ∷ []

-- both identities of a device with pages of two stores
abbrev pub id_members : (first last : List ℕ) → List ℕ
id_members first last = id_member (codes "first_id") first ++ id_member (codes "last_id") last

-- ---- what an advice says

-- in words
abbrev pub todo_text : Todo → List ℕ
todo_text todo.Make = make_text
todo_text (todo.Length pages wanted) = length_text pages wanted
todo_text (todo.TwoStores first last) = two_text first.0 last.0
todo_text (todo.Written page) = written_text page
todo_text (todo.Move text) = text.now
todo_text (todo.Text text) = text.now

-- by members of a JSON object
abbrev pub todo_members : Todo → List ℕ
todo_members (todo.TwoStores first last) = id_members first.0 last.0
todo_members todo.Make = []
todo_members (todo.Length pages wanted) = []
todo_members (todo.Written page) = []
todo_members (todo.Move text) = []
todo_members (todo.Text text) = []
