use Rattle.std.proofs.Common.{[], ◌∷◌, length, sum, sym, ap, ◌∙◌, subst, arith}
use Rattle.aml_sizes.specs.Styles.{style_of}
use Rattle.aml_writer.specs.Fills.{EndsIn, Fills}
use Rattle.aml_writer.proofs.Tables.{room_within, ends_with_terms, ends_with_header, header_here, all_filled, named_fills, named_ends, named_size}
use Rattle.aml_writer.proofs.fill.fill_block.Goals as goal

pub invariant_of-filling : goal.invariant_of-filling
invariant_of-filling c =
    let within = room_within c.args.block.now c.args.short c.args.room c.requires in
    record {
      count = omega (arith, ap length c.into_vec.ensures, ap length c.into_vec-2.ensures, c.requires.count);
      within = omega (arith, within, ap sum c.into_vec-2.ensures);
    }

pub fill_terms-requires : goal.fill_terms-requires
fill_terms-requires c = named_ends c.style_of.result (style_of c.args.block.now c.args.short) c.deref.result.now c.args.block.now.terms.items c.into_vec-2.result.items c.args.room.spaces c.style_of.ensures c.deref.ensures.value c.into_vec-2.ensures (ends_with_terms c.args.block.now c.args.short c.args.room c.requires)

pub fill_header-requires : goal.fill_header-requires
fill_header-requires c =
    let terms = named_fills c.style_of.result (style_of c.args.block.now c.args.short) c.deref.result.now c.args.block.now.terms.items c.into_vec-2.result.items c.args.room.spaces c.fill_terms.new.filling.spaces.items c.into_vec.result.items c.args.room.pieces c.fill_terms.new.filling.pieces.items
    c.style_of.ensures c.deref.ensures.value c.into_vec-2.ensures c.into_vec.ensures c.fill_terms.ensures.fills in
    let size = named_size c.style_of.result (style_of c.args.block.now c.args.short) c.deref.result.now c.args.block.now.terms.items c.fill_terms.new.filling.size c.style_of.ensures c.deref.ensures.value c.fill_terms.ensures.size in
    let here = header_here c.args.block.now c.args.short c.args.room c.fill_terms.new.filling.size c.fill_terms.new.filling.spaces.items c.fill_terms.new.filling.pieces.items c.requires terms size in
    record { ends = subst (λ bs. EndsIn c.fill_terms.new.filling.spaces.items (bs ∷ [])) (sym here) (ends_with_header c.args.block.now c.args.short c.args.room c.fill_terms.new.filling.spaces.items c.fill_terms.new.filling.pieces.items c.requires terms) }

pub returns : goal.returns
returns c =
    let terms = named_fills c.style_of.result (style_of c.args.block.now c.args.short) c.deref.result.now c.args.block.now.terms.items c.into_vec-2.result.items c.args.room.spaces c.fill_terms.new.filling.spaces.items c.into_vec.result.items c.args.room.pieces c.fill_terms.new.filling.pieces.items
    c.style_of.ensures c.deref.ensures.value c.into_vec-2.ensures c.into_vec.ensures c.fill_terms.ensures.fills in
    let size = named_size c.style_of.result (style_of c.args.block.now c.args.short) c.deref.result.now c.args.block.now.terms.items c.fill_terms.new.filling.size c.style_of.ensures c.deref.ensures.value c.fill_terms.ensures.size in
    let here = header_here c.args.block.now c.args.short c.args.room c.fill_terms.new.filling.size c.fill_terms.new.filling.spaces.items c.fill_terms.new.filling.pieces.items c.requires terms size in
    let header = subst (λ bs. Fills (bs ∷ []) c.fill_terms.new.filling.spaces.items c.fill_header.new.filling.spaces.items c.fill_terms.new.filling.pieces.items c.fill_header.new.filling.pieces.items) here c.fill_header.ensures in
    c.from_vec.ensures ∙ all_filled c.args.block.now c.args.short c.args.room c.fill_terms.new.filling.spaces.items c.fill_header.new.filling.spaces.items c.fill_terms.new.filling.pieces.items c.fill_header.new.filling.pieces.items c.requires terms header
