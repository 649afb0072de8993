use Rattle.aml_sizes.specs.TermBytes.{term_bytes}
use Rattle.aml_writer.proofs.Fills.{one_put}
use Rattle.aml_writer.proofs.fill.fill_whole.Goals as goal

pub returns-clause-fills : goal.returns-clause-fills
returns-clause-fills c =
    one_put (term_bytes c.args.style c.args.term.now)
    c.text_of_term-bytes.result c.args.filling.now.spaces.items c.next-space.new.self.spaces.items c.put.new.self.spaces.items c.next-space.result c.args.filling.now.pieces.items c.next-space.new.self.pieces.items c.put.new.self.pieces.items
    c.next-space.ensures.spaces c.next-space.ensures.pieces c.put.ensures.spaces c.next-space.ensures.count c.text_of_term-bytes.ensures c.put.ensures.pieces
