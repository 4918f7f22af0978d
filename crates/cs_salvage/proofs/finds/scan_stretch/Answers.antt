use Rattle.std.proofs.Common.{◌≡◌, ◌+◌, ◌-◌, ◌<◌, ◌≤◌, ◌∷◌, ◌++◌, [], List, ap, arith, length, min, subst, sym, ℕ}
use Rattle.std.proofs.lemmas.List.{append-nil}
use Rattle.std.proofs.lemmas.List.Elements.{All-nil, All-push}
use Rattle.cs_disk.specs.Disk.{seen}
use Rattle.cs_salvage.specs.Frames.{AreReadAs}
use Rattle.cs_salvage.specs.Looks.{AreApart, AreFoundBefore, number_of}
use Rattle.cs_salvage.proofs.Stretches.{apart_cut, apart_more, cut_before_end, ended_later, length_seen, size_cut, size_end, stretch_cut, stretch_end, within_end}
use Rattle.cs_salvage.proofs.finds.scan_stretch.Goals as goal

pub returns-then-stretch-clause-parts : goal.returns-then-stretch-clause-parts
returns-then-stretch-clause-parts g c = λ h first from are.
    let image = seen (g.D.PageDisk.state c.args.disk.now) in
    let here : ℕ = number_of c.args.sought.now.geometry c.place_at-place.result in
    let at : here ≡ c.args.number = c.place_at-place.ensures.number in
    let pages : List (List ℕ) = c.in_ok-stretch.stretch.pages.items in
    let sized : c.len.result ≡ length pages = omega (arith, c.len.ensures, c.in_ok-stretch.stretch.pages.ok.0) in
    let next : here + length pages ≡ c.args.number + c.len.result = omega (arith, at, sized) in
    let read = subst (λ (n : ℕ). AreReadAs image n (length pages) pages) (sym at) (c.in_ok-stretch.ensures.pages h) in
    subst (λ (ps : List ℕ). AreFoundBefore c.args.sought.now image first (c.args.number + c.len.result + 1) ps c.add_parts_in.new.parts.items) (sym {A = List ℕ} c.in_ok-push.ensures.items)
    (subst (λ (n : ℕ). AreFoundBefore c.args.sought.now image first (n + 1) (c.args.finds.now.unreadable.items ++ n ∷ []) c.add_parts_in.new.parts.items) next
    (stretch_cut c.args.sought.now image first here c.args.finds.now.unreadable.items pages c.deref.result.now c.deref.ensures.value c.args.finds.now.parts.items c.add_parts_in.new.parts.items
    (λ unread. c.in_ok-add_parts_in.ensures.parts image first unread) read (omega (arith, from, at))
    (subst (λ (n : ℕ). AreFoundBefore c.args.sought.now image first n c.args.finds.now.unreadable.items c.args.finds.now.parts.items) (sym at) are)))

pub returns-clause-parts : goal.returns-clause-parts
returns-clause-parts g c = λ h first from are.
    let image = seen (g.D.PageDisk.state c.args.disk.now) in
    let place = c.place_at-place.result in
    let here : ℕ = number_of c.args.sought.now.geometry c.place_at-place.result in
    let at : here ≡ c.args.number = c.place_at-place.ensures.number in
    let pages : List (List ℕ) = c.in_ok-stretch.stretch.pages.items in
    let sized : c.len.result ≡ length pages = omega (arith, c.len.ensures, c.in_ok-stretch.stretch.pages.ok.0) in
    let next : here + length pages ≡ c.args.number + c.len.result = omega (arith, at, sized) in
    let read = subst (λ (n : ℕ). AreReadAs image n (length pages) pages) (sym at) (c.in_ok-stretch.ensures.pages h) in
    let many : length pages ≡ c.pages_there-most.result = size_end c.in_ok-stretch.stretch.is_cut (length pages < c.pages_there-most.result) (length pages ≡ c.pages_there-most.result) c.if-stretch.false c.in_ok-stretch.ensures.size in
    let count : ℕ = g.D.PageDisk.page_count c.args.disk.now in
    let most : length pages ≡ min (c.args.sought.now.geometry.pages - place.page) (count - here) = omega (arith, many, c.pages_there-most.ensures, c.pages.ensures, at) in
    let within = within_end c.args.sought.now image place.extent place.page count (length pages) c.args.finds.now.unreadable.items c.place_at-place.ensures.page
    (length_seen (g.D.PageDisk.state c.args.disk.now) count (g.met.D.PageDisk.sized c.args.disk.now h)) (omega (arith, c.requires.before, at)) most in
    subst (λ (n : ℕ). AreFoundBefore c.args.sought.now image first n c.args.finds.now.unreadable.items c.add_parts_in.new.parts.items) next
    (stretch_end c.args.sought.now image first here c.args.finds.now.unreadable.items pages c.deref.result.now c.deref.ensures.value c.args.finds.now.parts.items c.add_parts_in.new.parts.items
    (λ unread. c.in_ok-add_parts_in.ensures.parts image first unread) read (omega (arith, from, at))
    (subst (λ (n : ℕ). AreFoundBefore c.args.sought.now image first n c.args.finds.now.unreadable.items c.args.finds.now.parts.items) (sym at) are) within)

pub returns-then-stretch-clause-apart : goal.returns-then-stretch-clause-apart
returns-then-stretch-clause-apart g c = λ first from are.
    let place = c.place_at-place.result in
    let here : ℕ = number_of c.args.sought.now.geometry c.place_at-place.result in
    let at : here ≡ c.args.number = c.place_at-place.ensures.number in
    let count : ℕ = g.D.PageDisk.page_count c.args.disk.now in
    let pages : List (List ℕ) = c.in_ok-stretch.stretch.pages.items in
    let same : length c.deref.result.now ≡ length pages = ap length c.deref.ensures.value in
    let sized : c.len.result ≡ length pages = omega (arith, c.len.ensures, c.in_ok-stretch.stretch.pages.ok.0) in
    let short : length pages < c.pages_there-most.result = size_cut c.in_ok-stretch.stretch.is_cut (length pages < c.pages_there-most.result) (length pages ≡ c.pages_there-most.result) c.if-stretch.true c.in_ok-stretch.ensures.size in
    let few : length pages < min (c.args.sought.now.geometry.pages - place.page) (count - here) = omega (arith, short, c.pages_there-most.ensures, c.pages.ensures, at) in
    let ends = cut_before_end c.args.sought.now.geometry.pages c.args.sought.now.geometry.extents place.extent place.page count (length pages) c.place_at-place.ensures.extent c.place_at-place.ensures.page (omega (arith, c.requires.before, at)) few in
    let ended = ended_later c.args.sought.now.geometry (here + length c.deref.result.now) (c.args.number + c.len.result) c.add_parts_in.new.parts.items (omega (arith, at, same, sized))
    (c.in_ok-add_parts_in.ensures.ended (ended_later c.args.sought.now.geometry c.args.number (here + length c.deref.result.now) c.args.finds.now.parts.items (omega (arith, at)) are.ended)) in
    let avoid = c.in_ok-add_parts_in.ensures.avoid c.args.finds.now.unreadable.items (λ k d lt. let less = are.before k d lt in omega (arith, less, at)) are.avoid in
    subst (λ (ps : List ℕ). AreApart c.args.sought.now.geometry first count (c.args.number + c.len.result + 1) ps c.add_parts_in.new.parts.items) (sym {A = List ℕ} c.in_ok-push.ensures.items)
    (apart_cut c.args.sought.now.geometry first count (c.args.number + c.len.result) c.args.finds.now.unreadable.items c.add_parts_in.new.parts.items (omega (arith, from)) (omega (arith, c.requires.from)) (omega (arith, ends, at, sized))
    (apart_more c.args.sought.now.geometry first count c.args.number (c.args.number + c.len.result) c.args.finds.now.unreadable.items c.args.finds.now.parts.items c.add_parts_in.new.parts.items (omega arith) are ended avoid))

pub returns-clause-apart : goal.returns-clause-apart
returns-clause-apart g c = λ first from are.
    let here : ℕ = number_of c.args.sought.now.geometry c.place_at-place.result in
    let at : here ≡ c.args.number = c.place_at-place.ensures.number in
    let count : ℕ = g.D.PageDisk.page_count c.args.disk.now in
    let pages : List (List ℕ) = c.in_ok-stretch.stretch.pages.items in
    let same : length c.deref.result.now ≡ length pages = ap length c.deref.ensures.value in
    let sized : c.len.result ≡ length pages = omega (arith, c.len.ensures, c.in_ok-stretch.stretch.pages.ok.0) in
    let ended = ended_later c.args.sought.now.geometry (here + length c.deref.result.now) (c.args.number + c.len.result) c.add_parts_in.new.parts.items (omega (arith, at, same, sized))
    (c.in_ok-add_parts_in.ensures.ended (ended_later c.args.sought.now.geometry c.args.number (here + length c.deref.result.now) c.args.finds.now.parts.items (omega (arith, at)) are.ended)) in
    let avoid = c.in_ok-add_parts_in.ensures.avoid c.args.finds.now.unreadable.items (λ k d lt. let less = are.before k d lt in omega (arith, less, at)) are.avoid in
    apart_more c.args.sought.now.geometry first count c.args.number (c.args.number + c.len.result) c.args.finds.now.unreadable.items c.args.finds.now.parts.items c.add_parts_in.new.parts.items (omega arith) are ended avoid

pub returns-then-stretch-clause-more : goal.returns-then-stretch-clause-more
returns-then-stretch-clause-more g c = ((c.args.number + c.len.result) ∷ [], c.in_ok-push.ensures.items, All-push (λ (p : ℕ). c.args.number ≤ p) [] (c.args.number + c.len.result) (All-nil (λ (p : ℕ). c.args.number ≤ p)) (omega arith))

pub returns-clause-more : goal.returns-clause-more
returns-clause-more g c = ([], sym {A = List ℕ} (append-nil c.args.finds.now.unreadable.items), All-nil (λ (p : ℕ). c.args.number ≤ p))
