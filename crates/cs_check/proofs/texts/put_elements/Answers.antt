use Rattle.std.specs.Prelude.{codes}
use Rattle.serde_json.specs.Data.{array}
use Rattle.serde_json.specs.View.{view, items_of, members_view}
use Rattle.cs_check.specs.Documents.{names_data}
use Rattle.cs_check.proofs.WrittenEntries.{two_put}
use Rattle.cs_check.proofs.texts.put_elements.Goals as goal

pub returns : goal.returns
returns c =
    let entries = c.in_ok-elements.ensures in (
      entries.0,
      entries.1,
      two_put (codes "chain") (codes "elements") (members_view c.args.members.now.entries) (members_view c.put.new.map.entries) (members_view c.put-2.new.map.entries) (names_data c.args.letters.now c.args.chain.now) (view c.in_ok-chain.chain) (array (items_of entries.0)) (view c.in_ok-elements.elements)
          c.in_ok-put.ensures.ok c.in_ok-chain.ensures c.in_ok-put-2.ensures.ok entries.2,
    )
