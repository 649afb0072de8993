-- What is written of a block is its table.
use Rattle.std.proofs.Common.{◌≡◌, ℕ, ◌+◌, ◌≤◌, ◌<◌, Bool, List, [], ◌∷◌, ◌++◌, length, drop, get_or, map, None, Some, sym, ap, ◌∙◌, subst, arith}
use Rattle.std.specs.List.{slice_get}
use Rattle.std.proofs.lemmas.Option.{slice_get-get_or}
use Rattle.std.specs.Prelude.{sum}
use Rattle.std.proofs.lemmas.List.{length-map, drop_all, append-nil}
use Rattle.iasl_messages.specs.declared.place.Line.{Line}
use Rattle.iasl_messages.specs.declared.place.Piece.{Piece}
use Rattle.acpi_state.specs.Objects.{Names}
use Rattle.asl_tree.specs.declared.term.Node.{Node}
use Rattle.asl_tree.specs.declared.program.Block.{Block}
use Rattle.asl_tree.specs.Names.{Known}
use Rattle.asl_meaning.specs.Starts.{IsKnownStart}
use Rattle.asl_tree.specs.View.{trees_of}
use Rattle.aml_meaning.specs.Encoded.{encoded_terms}
use Rattle.aml_code.specs.Header.{header_length, header_with, checksum_of, fields_of, table_bytes, IsHeader}
use Rattle.aml_meaning.specs.ByteSession.{IsFaithful}
use Rattle.aml_sessions.specs.Ready.{IsReadyBlock}
use Rattle.aml_sessions.proofs.Sessions.{faithful}
use Rattle.aml_sessions.proofs.Tables.{definition_is, width_is, length_is, is_header}
use Rattle.aml_sizes.specs.Sizes.{most_content_bytes}
use Rattle.aml_sizes.specs.declared.style.IntegerStyle.{IntegerStyle}
use Rattle.aml_sizes.specs.Styles.{style_of}
use Rattle.aml_sizes.specs.TermLists.{terms_bytes}
use Rattle.aml_sizes.specs.Pieces.{joined_pieces, nodes_pieces, table_pieces}
use Rattle.aml_sizes.specs.TableSizes.{most_table_bytes}
use Rattle.aml_writer.specs.Written.{IsTableOf}
use Rattle.aml_sizes.specs.declared.reserve.Room.{Room}
use Rattle.aml_sizes.specs.Rooms.{blank, size_of, IsRoomOf}
use Rattle.aml_writer.specs.Fills.{bytes_of, filled, nodes_parts, table_parts_of, joined_parts, header_for, HasRoom, EndsIn, Fills}
use Rattle.aml_writer.proofs.Fills.{filled_is, blank_filled, parts_sizes, parts_joined, sum_sizes, table_alike, table_sizes_alike}
use Rattle.aml_sizes.proofs.NodePieces.{nodes_joined}
use Rattle.aml_sizes.proofs.Encodings.{ready_bytes, joined_is, table_size}

-- what a ready block's pieces join to is its table
pub table_of : (known : Known) (externals : Names) (short : Bool) (lines : List Line) (block : Block) (pieces : List Piece) → length (terms_bytes (style_of block short) block.terms.items) ≤ most_content_bytes → pieces ≡ table_pieces (style_of block short) lines block → IsKnownStart known externals → IsReadyBlock known block → IsTableOf known externals block short (joined_pieces pieces)
table_of known externals short lines block pieces within is start ready =
    let style = style_of block short in
    let width = style.width in
    let bytes = joined_pieces pieces in
    let fields = fields_of block in
    let content = encoded_terms width short (trees_of block.terms.items) in
    let written_is : terms_bytes style block.terms.items ≡ content = ready_bytes known style block.terms.items ready.terms in
    let size : length content ≤ most_content_bytes = subst (λ bs. length bs ≤ most_content_bytes) written_is within in
    let table : bytes ≡ table_bytes fields content = ap joined_pieces is ∙ joined_is known short lines block ready in
    record {
      encoded = table;
      within = subst (λ bs. length bs ≤ most_table_bytes) (sym table) (let l = length_is fields content ready.signature in omega (arith, l, size));
      header = subst (λ bs. IsHeader bytes fields) table (subst (λ bs. IsHeader bs fields) (sym table) (is_header fields content ready.signature (omega (arith, size)) ready.oem_revision));
      faithful = subst (λ bs. IsFaithful width known externals (trees_of block.terms.items) bs) (sym table) (faithful width known short externals (trees_of block.terms.items) (table_bytes fields content) start ready.terms (width_is fields content ready.signature) (omega (arith, size)) (definition_is fields content ready.signature (omega (arith, size))));
    }

-- the bytes of a block's pieces: its header, and those of its terms
pub parts_are : (block : Block) (short : Bool) → table_parts_of block short ≡ header_for block (length (terms_bytes (style_of block short) block.terms.items)) (nodes_parts (style_of block short) block.terms.items) ∷ nodes_parts (style_of block short) block.terms.items
parts_are block short =
    let style = style_of block short in
    let terms = block.terms.items in
    let content = terms_bytes style terms in
    let size = header_length + length content in
    let same : joined_parts (nodes_parts style terms) ≡ content = parts_joined (nodes_pieces style [] terms) ∙ nodes_joined style [] terms in
    ap (λ bs. header_with (fields_of block) size (checksum_of (header_with (fields_of block) size 0 ++ bs)) ∷ nodes_parts style terms) (sym same)

-- a room of some lines is one whatever the lines
pub has_room : (lines : List Line) (block : Block) (short : Bool) (room : Room) → IsRoomOf lines block short room → HasRoom block short room
has_room lines block short room is =
    let style = style_of block short in
    let pieces = table_pieces style lines block in
    record {
      count = ap length is.pieces ∙ length-map pieces blank ∙ sym (length-map pieces size_of) ∙ sym (ap length is.spaces);
      spaces = is.spaces ∙ table_sizes_alike style lines [] block;
      lengths = is.lengths;
      within = is.within;
    }

pub room_filled : (lines : List Line) (block : Block) (short : Bool) (room : Room) (pieces : List Piece) → IsRoomOf lines block short room → pieces ≡ filled room.pieces (table_parts_of block short) → pieces ≡ table_pieces (style_of block short) lines block
room_filled lines block short room pieces is e =
    let style = style_of block short in
    let whole = table_pieces style lines block in
    e ∙ ap (λ ps. filled ps (table_parts_of block short)) is.pieces ∙ ap (filled (map blank whole)) (sym (table_alike style lines [] block)) ∙ blank_filled whole

-- the rooms of a block: that of the header, and those of the terms
pub ends_with_terms : (block : Block) (short : Bool) (room : Room) → HasRoom block short room → EndsIn room.spaces (nodes_parts (style_of block short) block.terms.items)
ends_with_terms block short room has =
    let parts = table_parts_of block short in
    let header = header_for block (length (terms_bytes (style_of block short) block.terms.items)) (nodes_parts (style_of block short) block.terms.items) in
    record {
      rest = length header ∷ [];
      is = has.spaces ∙ sym (parts_sizes (table_pieces (style_of block short) [] block)) ∙ ap (map length) (parts_are block short);
    }

pub ends_with_header : (block : Block) (short : Bool) (room : Room) (spaces : List ℕ) (pieces : List Piece) → HasRoom block short room → Fills (nodes_parts (style_of block short) block.terms.items) room.spaces spaces room.pieces pieces → EndsIn spaces (header_for block (length (terms_bytes (style_of block short) block.terms.items)) (nodes_parts (style_of block short) block.terms.items) ∷ [])
unfolding ends_with_terms
ends_with_header block short room spaces pieces has put =
    let ends = ends_with_terms block short room has in record { rest = []; is = put.left ends.rest ends.is }

-- the header by what is known of the pieces behind it
pub header_here : (block : Block) (short : Bool) (room : Room) (size : ℕ) (spaces : List ℕ) (pieces : List Piece) → HasRoom block short room → Fills (nodes_parts (style_of block short) block.terms.items) room.spaces spaces room.pieces pieces → size ≡ length (terms_bytes (style_of block short) block.terms.items)
    → header_for block size (map bytes_of (drop (length spaces) pieces)) ≡ header_for block (length (terms_bytes (style_of block short) block.terms.items)) (nodes_parts (style_of block short) block.terms.items)
header_here block short room size spaces pieces has put e =
    let parts = nodes_parts (style_of block short) block.terms.items in
    let before : map bytes_of (drop (length room.spaces) room.pieces) ≡ [] = ap (map bytes_of) (drop_all (length room.spaces) room.pieces (omega (arith, has.count))) in
    ap (λ n. header_for block n (map bytes_of (drop (length spaces) pieces))) e
    ∙ ap (header_for block (length (terms_bytes (style_of block short) block.terms.items))) (put.full ∙ ap (λ xs. parts ++ xs) before ∙ append-nil parts)

-- all the pieces have their bytes
pub all_filled : (block : Block) (short : Bool) (room : Room) (spaces spaces' : List ℕ) (pieces pieces' : List Piece) → HasRoom block short room → Fills (nodes_parts (style_of block short) block.terms.items) room.spaces spaces room.pieces pieces →
    Fills (header_for block (length (terms_bytes (style_of block short) block.terms.items)) (nodes_parts (style_of block short) block.terms.items) ∷ []) spaces spaces' pieces pieces' → pieces' ≡ filled room.pieces (table_parts_of block short)
unfolding ends_with_header
all_filled block short room spaces spaces' pieces pieces' has terms header =
    let none : spaces' ≡ [] = header.left [] (ends_with_header block short room spaces pieces has terms).is in
    let before : map bytes_of (drop (length room.spaces) room.pieces) ≡ [] = ap (map bytes_of) (drop_all (length room.spaces) room.pieces (omega (arith, has.count))) in
    let bytes : map bytes_of pieces' ≡ table_parts_of block short =
    ap (λ (ss : List ℕ). map bytes_of (drop (length ss) pieces')) (sym none) ∙ header.full
    ∙ ap (λ parts. header_for block (length (terms_bytes (style_of block short) block.terms.items)) (nodes_parts (style_of block short) block.terms.items) ∷ parts) (terms.full ∙ ap (λ parts. nodes_parts (style_of block short) block.terms.items ++ parts) before ∙ append-nil (nodes_parts (style_of block short) block.terms.items)) ∙ sym (parts_are block short) in
    filled_is pieces' room.pieces (header.blanks ∙ terms.blanks) ∙ ap (filled room.pieces) bytes

-- the rooms of a block have no more than 16 MiB
pub room_within : (block : Block) (short : Bool) (room : Room) → HasRoom block short room → sum room.spaces ≤ 16777216
room_within block short room has =
    let style = style_of block short in
    let whole : sum room.spaces ≡ 36 + length (terms_bytes style block.terms.items) = ap sum has.spaces ∙ sum_sizes (table_pieces style [] block) ∙ table_size style [] block in
    omega (arith, whole, has.within)

-- what was put in by other names
pub named_fills : (style style' : IntegerStyle) (ns ns' : List Node) (s s' t : List ℕ) (p p' q : List Piece) → style ≡ style' → ns ≡ ns' → s ≡ s' → p ≡ p' → Fills (nodes_parts style ns) s t p q → Fills (nodes_parts style' ns') s' t p' q
named_fills style style' ns ns' s s' t p p' q es en espaces ep h =
    subst (λ (o : IntegerStyle). Fills (nodes_parts o ns') s' t p' q) es (subst (λ ms. Fills (nodes_parts style ms) s' t p' q) en (subst (λ r. Fills (nodes_parts style ns) r t p' q) espaces (subst (λ ps. Fills (nodes_parts style ns) s t ps q) ep h)))

pub named_ends : (style style' : IntegerStyle) (ns ns' : List Node) (s s' : List ℕ) → style ≡ style' → ns ≡ ns' → s ≡ s' → EndsIn s' (nodes_parts style' ns') → EndsIn s (nodes_parts style ns)
named_ends style style' ns ns' s s' es en espaces h =
    subst (λ (o : IntegerStyle). EndsIn s (nodes_parts o ns)) (sym es) (subst (λ ms. EndsIn s (nodes_parts style' ms)) (sym en) (subst (λ r. EndsIn r (nodes_parts style' ns')) (sym espaces) h))

pub named_size : (style style' : IntegerStyle) (ns ns' : List Node) (size : ℕ) → style ≡ style' → ns ≡ ns' → size ≡ 0 + length (terms_bytes style ns) → size ≡ length (terms_bytes style' ns')
named_size style style' ns ns' size es en e =
    let same : length (terms_bytes style ns) ≡ length (terms_bytes style' ns') = ap (λ (o : IntegerStyle). length (terms_bytes o ns)) es ∙ ap (λ ms. length (terms_bytes style' ms)) en in
    omega (arith, e, same)

-- the block that is there
pub block_there : (blocks : List Block) (number : ℕ) → slice_get blocks number ≡ None → number < length blocks → ⊥
block_there [] number none lt = omega (arith, lt)
block_there (b ∷ blocks) number none lt = let told : None ≡ Some (get_or (b ∷ blocks) number b) = sym none ∙ slice_get-get_or (b ∷ blocks) number b lt in cc
