use Rattle.aml_writer.proofs.Fills.{one_put}
use Rattle.aml_writer.proofs.fill.fill_bytes.Goals as goal

pub returns : goal.returns
returns c =
    one_put c.args.given.now
    c.text_of_bytes-bytes.result c.args.filling.now.spaces.items c.next-space.new.self.spaces.items c.put.new.self.spaces.items c.next-space.result c.args.filling.now.pieces.items c.next-space.new.self.pieces.items c.put.new.self.pieces.items
    c.next-space.ensures.spaces c.next-space.ensures.pieces c.put.ensures.spaces c.next-space.ensures.count c.text_of_bytes-bytes.ensures c.put.ensures.pieces
