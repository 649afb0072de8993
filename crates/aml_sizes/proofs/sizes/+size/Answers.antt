use Rattle.std.proofs.Common.{ℕ, List, true, false, sym, ◌≡◌, ◌-◌, ◌++◌, ◌∙◌, ◌∷◌, [], length, get_or, take, refl, ap, subst, arith, length-append}
use Rattle.std.proofs.lemmas.List.{take_all}
use Rattle.asl_operators.specs.Letters.{letter_as, letters_as}
use Rattle.asl_tree.specs.declared.term.Node.{Node}
use Rattle.asl_tree.specs.declared.term.Term as D
use Rattle.aml_sizes.specs.Capped.{capped}
use Rattle.aml_sizes.specs.Codes.{code_of, letters_of}
use Rattle.aml_sizes.specs.Forms.{form_lengths}
use Rattle.aml_sizes.specs.Items.{written_name, written_items}
use Rattle.aml_sizes.specs.Leaves.{leaf_of, leaves_of, letter_number, operand_bytes}
use Rattle.aml_sizes.specs.TermBytes.{term_bytes, nodes_bytes, body_part}
use Rattle.aml_sizes.proofs.Rows.{nodes_longer, none_left, text_is, form_is, form_size, call_nodes}
use Rattle.aml_sizes.proofs.PlainForms.{plainly}
use Rattle.aml_sizes.proofs.Weights.{term_weight, form_weight, call_weight, node_weight}
use Rattle.aml_sizes.specs.PackageLengths.{operand_lengths, term_lengths, nodes_lengths, items_lengths, Noted}
use Rattle.aml_sizes.proofs.NotedLengths.{noted_nothing, noted_as, noted_both, rest_begins, rest_next, rest_done, nodes_more, no_nodes, alone_lengths, alone_noted, entry_noted, byte_noted, call_noted, form_noted, ruled_noted, headed_noted, buffer_noted, package_is_noted}
use Rattle.aml_sizes.proofs.sizes.+size.Goals.{operand_size-in-Omitted, operand_size-in_default-matches}
use Rattle.aml_sizes.proofs.sizes.+size.Goals as goal

pub nodes_size-loop-left-preserved : goal.nodes_size-loop-left-preserved
nodes_size-loop-left-preserved t c =
    let d = c.index-nodes-left.result in
    let i = c.loop-left.left - 1 in
    let ns = c.args.nodes.now in
    let n = get_or ns i d in
    let ls = letters_as c.args.letters.now in
    let longer = nodes_longer c.args.style ls ns i c.loop-left.left d (omega arith) (omega arith) in
    let own : c.operand_size.result ≡ capped (length (operand_bytes (letter_number ls i) (leaf_of n.term) (term_bytes c.args.style n.term))) =
    c.operand_size.ensures.size ∙ ap (λ l. capped (length (operand_bytes l (leaf_of n.term) (term_bytes c.args.style n.term)))) c.letter_at-letter.ensures in
    record {
      within = omega arith;
      few = omega (arith, c.saturating_add-size.ensures);
      lengths = rest_next (nodes_lengths c.args.style ls (take i ns)) (operand_lengths (letter_number ls i) (term_lengths c.args.style n.term)) _ _ c.loop-left.notes c.operand_size.new.notes c.args.notes.now (nodes_more c.args.style ls ns i c.loop-left.left d (omega arith) (omega arith)) c.loop-left.invariant.lengths
          (subst (λ l. Noted (operand_lengths l (term_lengths c.args.style n.term)) c.loop-left.notes c.operand_size.new.notes) c.letter_at-letter.ensures c.operand_size.ensures.lengths);
      size = omega (arith, longer, own, c.saturating_add-size.ensures, c.loop-left.invariant.size);
    }

pub nodes_size-returns-clause-lengths : goal.nodes_size-returns-clause-lengths
nodes_size-returns-clause-lengths t c =
    rest_done _ _ c.loop-left.notes c.args.notes.now (no_nodes c.args.style (letters_as c.args.letters.now) c.args.nodes.now c.loop-left.left (omega arith)) c.loop-left.invariant.lengths

pub nodes_size-returns-clause-size : goal.nodes_size-returns-clause-size
nodes_size-returns-clause-size t c =
    let none = none_left c.args.style (letters_as c.args.letters.now) c.args.nodes.now c.loop-left.left (omega arith) in
    omega (arith, none, c.loop-left.invariant.few, c.loop-left.invariant.size)

pub term_size-returns-in-Text-clause-size : goal.term_size-returns-in-Text-clause-size
term_size-returns-in-Text-clause-size t c =
    let whole = ap length (ap (term_bytes c.args.style) c.in-Text.is ∙ text_is c.args.style c.in-Text.text) in
    let same = ap (λ (bs : List ℕ). length (bs ++ 0x00 ∷ [])) c.as_bytes.ensures in
    omega (arith, whole, same, c.text_size.ensures.size, c.text_size.ensures.few)

pub nodes_size-loop-left-init : goal.nodes_size-loop-left-init
nodes_size-loop-left-init t c = record {
  within = omega arith;
  few = omega arith;
  lengths = rest_begins _ _ c.args.notes.now (ap (nodes_lengths c.args.style (letters_as c.args.letters.now)) (take_all (length c.args.nodes.now) c.args.nodes.now (omega arith)));
  size = let all = ap (λ ns. length (nodes_bytes c.args.style (letters_as c.args.letters.now) ns)) (take_all (length c.args.nodes.now) c.args.nodes.now (omega arith)) in omega (arith, all);
}

pub operand_size-returns-then-matches-clause-lengths : goal.operand_size-returns-then-matches-clause-lengths
operand_size-returns-then-matches-clause-lengths t c =
    elim c.match-matches.branch as (λ _. Noted (operand_lengths (letter_as c.args.letter) (term_lengths c.args.style c.args.term.now)) c.args.notes.now c.args.notes.now) [
      | operand_size-in-Omitted w ↦ noted_nothing [] _ c.args.notes.now c.args.notes.now (ap (λ l. operand_lengths (letter_as l) (term_lengths c.args.style c.args.term.now)) c.in-Valued.is ∙ ap (term_lengths c.args.style) w.in-Omitted.is ∙ alone_lengths c.args.style D.Omitted tt) refl
      | operand_size-in_default-matches w ↦ absurd (let no : false ≡ true = sym w.matches-is ∙ c.if-matches.true in grind arith)
    ]

pub headed_size-returns-clause-lengths : goal.headed_size-returns-clause-lengths
headed_size-returns-clause-lengths t c = λ whole e.
    headed_noted c.args.style c.args.op (letters_as c.letters.result.now) c.args.args.now c.is_packed.result c.nodes_size-own.result c.args.body whole c.args.notes.now c.nodes_size-own.new.notes c.framed_size.new.notes c.letters.ensures c.is_packed.ensures c.nodes_size-own.ensures.size e c.nodes_size-own.ensures.lengths c.framed_size.ensures.lengths

pub sized_buffer-returns-clause-lengths : goal.sized_buffer-returns-clause-lengths
sized_buffer-returns-clause-lengths t c = λ whole e.
    buffer_noted c.args.style (leaves_of c.args.args.now) (nodes_bytes c.args.style [] c.args.args.now) (nodes_lengths c.args.style [] c.args.args.now) c.args.size c.buffer_size_size-own.result whole c.args.notes.now c.buffer_size_size-own.new.notes c.framed_size.new.notes e c.buffer_size_size-own.ensures.size c.buffer_size_size-own.ensures.lengths c.framed_size.ensures.lengths

pub sized_package-returns-clause-lengths : goal.sized_package-returns-clause-lengths
sized_package-returns-clause-lengths t c = λ whole e.
    package_is_noted c.args.style (leaves_of c.args.args.now) (nodes_bytes c.args.style [] c.args.args.now) (nodes_lengths c.args.style [] c.args.args.now)
    c.stated_count-count.result c.args.elements c.args.size c.count_size-own.result whole c.args.notes.now c.count_size-own.new.notes c.framed_size.new.notes c.stated_count-count.ensures e c.count_size-own.ensures.size c.count_size-own.ensures.lengths c.framed_size.ensures.lengths

pub term_size-returns-in-Integer-clause-lengths : goal.term_size-returns-in-Integer-clause-lengths
term_size-returns-in-Integer-clause-lengths t c = alone_noted c.args.style _ _ c.args.notes.now c.in-Integer.is tt

pub term_size-returns-in-Word-clause-lengths : goal.term_size-returns-in-Word-clause-lengths
term_size-returns-in-Word-clause-lengths t c = alone_noted c.args.style _ _ c.args.notes.now c.in-Word.is tt

pub term_size-returns-in-Text-clause-lengths : goal.term_size-returns-in-Text-clause-lengths
term_size-returns-in-Text-clause-lengths t c = alone_noted c.args.style _ _ c.args.notes.now c.in-Text.is tt

pub term_size-returns-in-Debug-clause-lengths : goal.term_size-returns-in-Debug-clause-lengths
term_size-returns-in-Debug-clause-lengths t c = alone_noted c.args.style _ _ c.args.notes.now c.in-Debug.is tt

pub term_size-returns-in-Name-clause-lengths : goal.term_size-returns-in-Name-clause-lengths
term_size-returns-in-Name-clause-lengths t c = alone_noted c.args.style _ _ c.args.notes.now c.in-Name.is tt

pub term_size-returns-in-Fill-clause-lengths : goal.term_size-returns-in-Fill-clause-lengths
term_size-returns-in-Fill-clause-lengths t c = entry_noted c.args.style c.args.term.now c.args.notes.now c.in-Fill.is

pub term_size-returns-in-Fill-2-clause-lengths : goal.term_size-returns-in-Fill-2-clause-lengths
term_size-returns-in-Fill-2-clause-lengths t c = entry_noted c.args.style c.args.term.now c.args.notes.now c.in-Fill.is

pub term_size-returns-in-Fill-3-clause-lengths : goal.term_size-returns-in-Fill-3-clause-lengths
term_size-returns-in-Fill-3-clause-lengths t c = entry_noted c.args.style c.args.term.now c.args.notes.now c.in-Fill.is

pub term_size-returns-in-Fill-4-clause-lengths : goal.term_size-returns-in-Fill-4-clause-lengths
term_size-returns-in-Fill-4-clause-lengths t c = entry_noted c.args.style c.args.term.now c.args.notes.now c.in-Fill.is

pub term_size-returns-in-Fill-5-clause-lengths : goal.term_size-returns-in-Fill-5-clause-lengths
term_size-returns-in-Fill-5-clause-lengths t c = entry_noted c.args.style c.args.term.now c.args.notes.now c.in-Fill.is

pub term_size-returns-in-Local-clause-lengths : goal.term_size-returns-in-Local-clause-lengths
term_size-returns-in-Local-clause-lengths t c = byte_noted c.args.style c.args.term.now c.args.notes.now c.in-Local.is

pub term_size-returns-in-Local-2-clause-lengths : goal.term_size-returns-in-Local-2-clause-lengths
term_size-returns-in-Local-2-clause-lengths t c = byte_noted c.args.style c.args.term.now c.args.notes.now c.in-Local.is

pub term_size-returns-in-Local-3-clause-lengths : goal.term_size-returns-in-Local-3-clause-lengths
term_size-returns-in-Local-3-clause-lengths t c = byte_noted c.args.style c.args.term.now c.args.notes.now c.in-Local.is

pub term_size-returns-in-Call-clause-size : goal.term_size-returns-in-Call-clause-size
term_size-returns-in-Call-clause-size t c =
    c.call_size.ensures.size ∙ ap (λ (bs : List ℕ). capped (length bs)) (call_nodes c.args.style c.in-Call.path c.in-Call.args c.args.term.now c.deref.result.now c.in-Call.is c.deref.ensures.value)

pub term_size-returns-in-Call-clause-lengths : goal.term_size-returns-in-Call-clause-lengths
term_size-returns-in-Call-clause-lengths t c =
    call_noted c.args.style c.in-Call.path c.in-Call.args c.args.term.now c.deref.result.now c.args.notes.now c.call_size.new.notes c.in-Call.is c.deref.ensures.value c.call_size.ensures.lengths

pub term_size-returns-in-Form-clause-size : goal.term_size-returns-in-Form-clause-size
term_size-returns-in-Form-clause-size t c =
    c.form_size.ensures.size ∙ ap (λ (bs : List ℕ). capped (length bs)) (form_is c.args.style c.in-Form.op c.in-Form.args c.in-Form.body c.args.term.now c.deref-in-Form.result.now c.deref-in-Form-2.result.now c.in-Form.is c.deref-in-Form.ensures.value c.deref-in-Form-2.ensures.value)

pub term_size-returns-in-Form-clause-lengths : goal.term_size-returns-in-Form-clause-lengths
term_size-returns-in-Form-clause-lengths t c =
    form_noted c.args.style c.in-Form.op c.in-Form.args c.in-Form.body c.args.term.now c.deref-in-Form.result.now c.deref-in-Form-2.result.now c.args.notes.now c.form_size.new.notes c.in-Form.is c.deref-in-Form.ensures.value c.deref-in-Form-2.ensures.value c.form_size.ensures.lengths

pub call_size-returns-clause-size : goal.call_size-returns-clause-size
call_size-returns-clause-size t c =
    let none = ap (λ ls. length (nodes_bytes c.args.style ls c.args.args.now)) c.no_letters.ensures in
    omega (arith, none, length-append (written_name c.args.path.now) (nodes_bytes c.args.style [] c.args.args.now), c.nodes_size.ensures.size, c.name_size.ensures, c.saturating_add.ensures)

pub call_size-returns-clause-lengths : goal.call_size-returns-clause-lengths
call_size-returns-clause-lengths t c =
    noted_as (nodes_lengths c.args.style (letters_as c.no_letters.result.now) c.args.args.now) (nodes_lengths c.args.style [] c.args.args.now) c.args.notes.now c.nodes_size.new.notes
    (ap (λ ls. nodes_lengths c.args.style ls c.args.args.now) (sym c.no_letters.ensures)) c.nodes_size.ensures.lengths

pub plain_form_size-returns-clause-size : goal.plain_form_size-returns-clause-size
plain_form_size-returns-clause-size t c =
    let code = code_of c.args.op in
    let own = nodes_bytes c.args.style (letters_of c.args.op) c.args.args.now in
    let content = nodes_bytes c.args.style [] c.args.body.now in
    let own_is = ap (λ ls. length (nodes_bytes c.args.style ls c.args.args.now)) c.letters.ensures in
    let content_is = ap (λ ls. length (nodes_bytes c.args.style ls c.args.body.now)) c.no_letters.ensures in
    omega (arith, own_is, content_is, length-append code own, length-append (code ++ own) content, c.nodes_size-size.ensures.size, c.nodes_size-own.ensures.size, c.opcode_size.ensures.size, c.saturating_add.ensures, c.saturating_add-2.ensures)

pub plain_form_size-returns-clause-lengths : goal.plain_form_size-returns-clause-lengths
plain_form_size-returns-clause-lengths t c =
    let own = nodes_lengths c.args.style (letters_of c.args.op) c.args.args.now in
    let content = nodes_lengths c.args.style [] c.args.body.now in
    noted_both own content c.args.notes.now c.nodes_size-size.new.notes c.nodes_size-own.new.notes
    (noted_as (nodes_lengths c.args.style (letters_as c.no_letters.result.now) c.args.body.now) content c.args.notes.now c.nodes_size-size.new.notes (ap (λ ls. nodes_lengths c.args.style ls c.args.body.now) (sym c.no_letters.ensures)) c.nodes_size-size.ensures.lengths)
    (noted_as (nodes_lengths c.args.style (letters_as c.letters.result.now) c.args.args.now) own c.nodes_size-size.new.notes c.nodes_size-own.new.notes (ap (λ ls. nodes_lengths c.args.style ls c.args.args.now) (sym c.letters.ensures)) c.nodes_size-own.ensures.lengths)

pub ruled_form_size-returns-clause-size : goal.ruled_form_size-returns-clause-size
ruled_form_size-returns-clause-size t c =
    c.sized_form.ensures.size ∙ form_size c.args.style c.args.op c.args.args.now c.args.body.now c.node_count-nodes.result c.body_size-size.result c.node_count-nodes.ensures c.body_size-size.ensures.size

pub ruled_form_size-returns-clause-lengths : goal.ruled_form_size-returns-clause-lengths
ruled_form_size-returns-clause-lengths t c =
    ruled_noted c.args.style c.args.op c.args.args.now c.args.body.now c.node_count-nodes.result c.body_size-size.result c.args.notes.now c.body_size-size.new.notes c.sized_form.new.notes c.node_count-nodes.ensures c.body_size-size.ensures.size c.body_size-size.ensures.lengths c.sized_form.ensures.lengths

pub form_size-returns-then-is_plain-clause-size : goal.form_size-returns-then-is_plain-clause-size
form_size-returns-then-is_plain-clause-size t c =
    let plain = plainly c.args.style c.args.op (sym c.is_plain.ensures ∙ c.if-is_plain.true) in
    c.plain_form_size.ensures.size
    ∙ ap (λ (bs : List ℕ). capped (length bs)) (plain.bytes (leaves_of c.args.args.now) (nodes_bytes c.args.style (letters_of c.args.op) c.args.args.now) (leaves_of c.args.body.now) (nodes_bytes c.args.style [] c.args.body.now) (written_items 0 c.args.body.now))

pub form_size-returns-then-is_plain-clause-lengths : goal.form_size-returns-then-is_plain-clause-lengths
form_size-returns-then-is_plain-clause-lengths t c =
    let plain = plainly c.args.style c.args.op (sym c.is_plain.ensures ∙ c.if-is_plain.true) in
    let own = nodes_lengths c.args.style (letters_of c.args.op) c.args.args.now in
    let content = nodes_lengths c.args.style [] c.args.body.now in
    noted_as (own ++ content) (form_lengths c.args.style c.args.op c.args.args.now c.args.body.now) c.args.notes.now c.plain_form_size.new.notes
    (sym (plain.lengths (leaves_of c.args.args.now) (nodes_bytes c.args.style (letters_of c.args.op) c.args.args.now) own (length (leaves_of c.args.body.now)) (length (body_part c.args.style c.args.op (leaves_of c.args.body.now) (nodes_bytes c.args.style [] c.args.body.now) (written_items 0 c.args.body.now))) content (items_lengths c.args.body.now)))
    c.plain_form_size.ensures.lengths

pub nodes_size-operand_size-requires : goal.nodes_size-operand_size-requires
nodes_size-operand_size-requires t c =
    let d = c.index-nodes-left.result in
    let i = c.loop-left.left - 1 in
    let ns = c.args.nodes.now in
    let inside = node_weight ns i d (omega arith) in
    let here = ap (λ (n : Node). term_weight n.term) c.index-nodes-left.is in
    (omega (arith, c.decreases, inside, here), tt)

pub term_size-call_size-requires : goal.term_size-call_size-requires
term_size-call_size-requires t c =
    let inside = call_weight c.args.term.now c.in-Call.path c.in-Call.args c.deref.result.now c.in-Call.is c.deref.ensures.value in
    (omega (arith, c.decreases, inside), tt)

pub term_size-form_size-requires : goal.term_size-form_size-requires
term_size-form_size-requires t c =
    let inside = form_weight c.args.term.now c.in-Form.op c.in-Form.args c.in-Form.body c.deref-in-Form.result.now c.deref-in-Form-2.result.now c.in-Form.is c.deref-in-Form.ensures.value c.deref-in-Form-2.ensures.value in
    (omega (arith, c.decreases, inside), tt)
