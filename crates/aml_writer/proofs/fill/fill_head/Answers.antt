use Rattle.aml_sizes.specs.Codes.{letters_of}
use Rattle.aml_sizes.specs.TermBytes.{nodes_bytes}
use Rattle.aml_sizes.specs.TermLists.{own_head}
use Rattle.aml_writer.proofs.Fills.{one_put}
use Rattle.aml_writer.proofs.fill.fill_head.Goals as goal

pub returns-clause-fills : goal.returns-clause-fills
returns-clause-fills c =
    one_put (own_head c.args.op (nodes_bytes c.args.style (letters_of c.args.op) c.args.args.now) c.args.body c.args.later)
    c.text_of_head-bytes.result c.args.filling.now.spaces.items c.next-space.new.self.spaces.items c.put.new.self.spaces.items c.next-space.result c.args.filling.now.pieces.items c.next-space.new.self.pieces.items c.put.new.self.pieces.items
    c.next-space.ensures.spaces c.next-space.ensures.pieces c.put.ensures.spaces c.next-space.ensures.count c.text_of_head-bytes.ensures c.put.ensures.pieces
