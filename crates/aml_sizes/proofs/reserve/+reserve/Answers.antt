use Rattle.std.proofs.Common.{◌≡◌, ◌≤◌, ◌+◌, ◌-◌, ◌<◌, ◌∙◌, [], ◌∷◌, ◌++◌, length, drop, refl, sym, ap, subst, arith}
use Rattle.std.proofs.lemmas.Result.{err_from_is_err_and, on_ok_weaker}
use Rattle.std.proofs.lemmas.List.{drop_all}
use Rattle.aml_sizes.specs.Sizes.{most_content_bytes}
use Rattle.aml_sizes.specs.Codes.{letters_of}
use Rattle.aml_sizes.specs.Capped.{capped}
use Rattle.aml_sizes.specs.TermBytes.{nodes_bytes}
use Rattle.aml_sizes.specs.TermLists.{own_head, run_from, own_bytes, terms_bytes, later_of}
use Rattle.aml_sizes.specs.Pieces.{piece_at, nodes_pieces}
use Rattle.aml_sizes.specs.PackageLengths.{Noted}
use Rattle.aml_sizes.specs.Rooms.{blanks, sizes}
use Rattle.aml_sizes.proofs.TermLists.{at_next, later_cons, none_later, later_within, container_is, container_length}
use Rattle.aml_sizes.proofs.NodePieces.{next_drafted, next_size, node_within, none_drafted, none_size, body_within, grown_by, container_drafted, container_is_term}
use Rattle.aml_sizes.proofs.ListLengths.{next_noted, none_noted, container_noted, container_lengths_are}
use Rattle.aml_sizes.proofs.Rooms.{blanks_append, sizes_append, on_ok_always, on_ok_with}
use Rattle.aml_sizes.proofs.reserve.+reserve.Goals as goal

pub reserve_terms-loop-left-init : goal.reserve_terms-loop-left-init
reserve_terms-loop-left-init t c =
    let none = drop_all (length c.args.nodes.now) c.args.nodes.now (omega arith) in
    let no_bytes = none_size c.args.style (drop (length c.args.nodes.now) c.args.nodes.now) none in
    record {
      within = omega arith;
      later = sym (ap (later_of c.args.style) none ∙ none_later c.args.style);
      pieces = none_drafted blanks blanks_append refl c.args.style c.args.lines.now (drop (length c.args.nodes.now) c.args.nodes.now) c.args.draft.now.pieces.items none;
      spaces = none_drafted sizes sizes_append refl c.args.style c.args.lines.now (drop (length c.args.nodes.now) c.args.nodes.now) c.args.draft.now.spaces.items none;
      lengths = none_noted c.args.style (drop (length c.args.nodes.now) c.args.nodes.now) c.args.draft.now.notes none;
      size = omega (arith, no_bytes);
    }

pub reserve_terms-loop-left-preserved : goal.reserve_terms-loop-left-preserved
reserve_terms-loop-left-preserved t c =
    let d = c.index-nodes-left.result in
    let i = c.loop-left.left - 1 in
    let left = c.loop-left.left in
    let ns = c.args.nodes.now in
    let e : i + 1 ≡ left = omega arith in
    let lt : i < length ns = omega arith in
    let size = next_size c.args.style ns i left c.loop-left.later d c.loop-left.draft.size c.reserve_term.new.draft.size _ e lt c.index-nodes-left.is c.loop-left.invariant.later c.loop-left.invariant.size c.in_ok-reserve_term.ensures.size in
    let own : c.reserve_term.new.draft.size - c.loop-left.draft.size ≡ length (own_bytes c.args.style c.loop-left.later d.term) = grown_by _ _ _ c.in_ok-reserve_term.ensures.size in
    let run : later_of c.args.style (drop i ns) ≡ run_from d.term (c.reserve_term.new.draft.size - c.loop-left.draft.size) c.loop-left.later =
    at_next (later_of c.args.style) ns i left d e lt c.index-nodes-left.is ∙ later_cons c.args.style d (drop left ns)
    ∙ ap (λ n. run_from d.term (length (own_bytes c.args.style n d.term)) n) (sym c.loop-left.invariant.later) ∙ ap (λ n. run_from d.term n c.loop-left.later) (sym own) in
    let within = later_within c.args.style (drop i ns) in
    let most : c.reserve_term.new.draft.size ≤ most_content_bytes = c.reserve_term.new.draft.within in
    record {
      within = omega arith;
      later = omega (arith, c.run_from-later.ensures, run, within, size, most);
      pieces = next_drafted blanks blanks_append c.args.style c.args.lines.now ns i left c.loop-left.later d c.loop-left.draft.pieces.items c.reserve_term.new.draft.pieces.items _ e lt c.index-nodes-left.is c.loop-left.invariant.later c.loop-left.invariant.pieces c.in_ok-reserve_term.ensures.pieces;
      spaces = next_drafted sizes sizes_append c.args.style c.args.lines.now ns i left c.loop-left.later d c.loop-left.draft.spaces.items c.reserve_term.new.draft.spaces.items _ e lt c.index-nodes-left.is c.loop-left.invariant.later c.loop-left.invariant.spaces c.in_ok-reserve_term.ensures.spaces;
      lengths = next_noted c.args.style ns i left c.loop-left.later d c.args.draft.now.notes c.loop-left.draft.notes c.reserve_term.new.draft.notes e lt c.index-nodes-left.is c.loop-left.invariant.later c.loop-left.invariant.lengths c.in_ok-reserve_term.ensures.lengths;
      size = size;
    }

pub reserve_terms-returns-in_err-reserve_term-clause-too_long :
    goal.reserve_terms-returns-in_err-reserve_term-clause-too_long
reserve_terms-returns-in_err-reserve_term-clause-too_long t c =
    let p = err_from_is_err_and c.from_residual.result c.from_residual.ensures.1 in
    let within = node_within c.args.style c.args.nodes.now (c.loop-left.left - 1) c.loop-left.left c.loop-left.later c.index-nodes-left.result (omega arith) (omega arith) c.index-nodes-left.is c.loop-left.invariant.later in
    rw (p.1, p.2) (λ is. omega (arith, c.in_err-reserve_term.ensures.too_long is, c.loop-left.invariant.size, within))

pub reserve_container-returns-in_err-reserve_terms-clause-too_long :
    goal.reserve_container-returns-in_err-reserve_terms-clause-too_long
reserve_container-returns-in_err-reserve_terms-clause-too_long t c =
    let p = err_from_is_err_and c.from_residual.result c.from_residual.ensures.1 in
    let within = body_within c.args.style c.args.op c.args.args.now c.args.body.now c.args.later in
    rw (p.1, p.2) (λ is. omega (arith, c.in_err-reserve_terms.ensures.too_long is, within))

pub reserve_container-returns-clause-pieces : goal.reserve_container-returns-clause-pieces
reserve_container-returns-clause-pieces t c =
    let own = piece_at c.args.lines.now c.args.place (own_head c.args.op (nodes_bytes c.args.style (letters_of c.args.op) c.args.args.now) (length (terms_bytes c.args.style c.args.body.now)) c.args.later) in
    on_ok_weaker c.push.result (container_drafted blanks blanks_append own (nodes_pieces c.args.style c.args.lines.now c.args.body.now) c.args.draft.now.pieces.items c.reserve_terms.new.draft.pieces.items c.push.new.self.pieces.items c.in_ok-reserve_terms.ensures.pieces) c.push.ensures.pieces

pub reserve_container-returns-clause-spaces : goal.reserve_container-returns-clause-spaces
reserve_container-returns-clause-spaces t c =
    let size = c.reserve_terms.new.draft.size - c.args.draft.now.size in
    let own = own_head c.args.op (nodes_bytes c.args.style (letters_of c.args.op) c.args.args.now) (length (terms_bytes c.args.style c.args.body.now)) c.args.later in
    let es : size ≡ length (terms_bytes c.args.style c.args.body.now) = grown_by _ _ _ c.in_ok-reserve_terms.ensures.size in
    let within : c.reserve_terms.new.draft.size ≤ most_content_bytes = c.reserve_terms.new.draft.within in
    let e : c.own_size-whole.result ≡ capped (length own + size) = c.own_size-whole.ensures.size ∙ ap (λ n. capped (length (own_head c.args.op (nodes_bytes c.args.style (letters_of c.args.op) c.args.args.now) n c.args.later) + size)) es in
    on_ok_with c.push.result
    (λ is few.
    let count : c.own_size-whole.result - size ≡ length own = omega (arith, e, within, few) in
    container_drafted sizes sizes_append (piece_at c.args.lines.now c.args.place own) (nodes_pieces c.args.style c.args.lines.now c.args.body.now) c.args.draft.now.spaces.items c.reserve_terms.new.draft.spaces.items c.push.new.self.spaces.items c.in_ok-reserve_terms.ensures.spaces
    (is ∙ ap (λ n. c.reserve_terms.new.draft.spaces.items ++ n ∷ []) count))
    c.push.ensures.spaces c.push.ensures.few

pub reserve_container-returns-clause-size : goal.reserve_container-returns-clause-size
reserve_container-returns-clause-size t c =
    let size = c.reserve_terms.new.draft.size - c.args.draft.now.size in
    let within : c.reserve_terms.new.draft.size ≤ most_content_bytes = c.reserve_terms.new.draft.within in
    let whole = container_length c.args.style c.args.op c.args.args.now c.args.body.now size c.args.later (grown_by _ _ _ c.in_ok-reserve_terms.ensures.size) in
    on_ok_with c.push.result
    (λ is few. omega (arith, is, few, within, c.own_size-whole.ensures.size, whole, c.in_ok-reserve_terms.ensures.size))
    c.push.ensures.size c.push.ensures.few

pub reserve_container-returns-clause-lengths : goal.reserve_container-returns-clause-lengths
reserve_container-returns-clause-lengths t c =
    on_ok_always c.push.result
    (container_noted c.args.style c.args.op c.args.args.now c.args.body.now (c.reserve_terms.new.draft.size - c.args.draft.now.size) c.args.later c.args.draft.now.notes c.reserve_terms.new.draft.notes c.own_size-whole.new.notes c.push.new.self.notes
    (grown_by _ _ _ c.in_ok-reserve_terms.ensures.size) c.in_ok-reserve_terms.ensures.lengths c.own_size-whole.ensures.lengths c.push.ensures.notes)

pub reserve_container-returns-clause-too_long : goal.reserve_container-returns-clause-too_long
reserve_container-returns-clause-too_long t c =
    let size = c.reserve_terms.new.draft.size - c.args.draft.now.size in
    let whole = container_length c.args.style c.args.op c.args.args.now c.args.body.now size c.args.later (grown_by _ _ _ c.in_ok-reserve_terms.ensures.size) in
    λ is. omega (arith, c.push.ensures.too_long is, c.own_size-whole.ensures.size, whole, c.in_ok-reserve_terms.ensures.size)

pub reserve_term-returns-then-holds_terms-clause-pieces : goal.reserve_term-returns-then-holds_terms-clause-pieces
reserve_term-returns-then-holds_terms-clause-pieces t c =
    let whole = container_is_term c.args.style c.args.lines.now c.args.later c.args.node.now.place c.in-Form.op c.in-Form.args c.in-Form.body c.args.node.now.term c.deref-then-holds_terms.result.now c.deref.result.now c.in-Form.is c.deref-then-holds_terms.ensures.value c.deref.ensures.value (sym c.holds_terms.ensures ∙ c.if-holds_terms.true) in
    on_ok_weaker c.reserve_container.result (λ is. is ∙ ap (λ ps. c.args.draft.now.pieces.items ++ blanks ps) whole) c.reserve_container.ensures.pieces

pub reserve_term-returns-then-holds_terms-clause-spaces : goal.reserve_term-returns-then-holds_terms-clause-spaces
reserve_term-returns-then-holds_terms-clause-spaces t c =
    let whole = container_is_term c.args.style c.args.lines.now c.args.later c.args.node.now.place c.in-Form.op c.in-Form.args c.in-Form.body c.args.node.now.term c.deref-then-holds_terms.result.now c.deref.result.now c.in-Form.is c.deref-then-holds_terms.ensures.value c.deref.ensures.value (sym c.holds_terms.ensures ∙ c.if-holds_terms.true) in
    on_ok_weaker c.reserve_container.result (λ is. is ∙ ap (λ ps. c.args.draft.now.spaces.items ++ sizes ps) whole) c.reserve_container.ensures.spaces

pub reserve_term-returns-then-holds_terms-clause-size : goal.reserve_term-returns-then-holds_terms-clause-size
reserve_term-returns-then-holds_terms-clause-size t c =
    let whole = container_is c.args.style c.args.later c.in-Form.op c.in-Form.args c.in-Form.body c.args.node.now.term c.deref-then-holds_terms.result.now c.deref.result.now c.in-Form.is c.deref-then-holds_terms.ensures.value c.deref.ensures.value (sym c.holds_terms.ensures ∙ c.if-holds_terms.true) in
    on_ok_weaker c.reserve_container.result (λ is. is ∙ ap (λ bs. c.args.draft.now.size + length bs) whole) c.reserve_container.ensures.size

pub reserve_term-returns-then-holds_terms-clause-lengths : goal.reserve_term-returns-then-holds_terms-clause-lengths
reserve_term-returns-then-holds_terms-clause-lengths t c =
    let whole = container_lengths_are c.args.style c.args.later c.in-Form.op c.in-Form.args c.in-Form.body c.args.node.now.term c.deref-then-holds_terms.result.now c.deref.result.now c.in-Form.is c.deref-then-holds_terms.ensures.value c.deref.ensures.value (sym c.holds_terms.ensures ∙ c.if-holds_terms.true) in
    on_ok_weaker c.reserve_container.result (λ is. subst (λ ls. Noted ls c.args.draft.now.notes c.reserve_container.new.draft.notes) whole is) c.reserve_container.ensures.lengths

pub reserve_term-returns-then-holds_terms-clause-too_long : goal.reserve_term-returns-then-holds_terms-clause-too_long
reserve_term-returns-then-holds_terms-clause-too_long t c =
    let whole = container_is c.args.style c.args.later c.in-Form.op c.in-Form.args c.in-Form.body c.args.node.now.term c.deref-then-holds_terms.result.now c.deref.result.now c.in-Form.is c.deref-then-holds_terms.ensures.value c.deref.ensures.value (sym c.holds_terms.ensures ∙ c.if-holds_terms.true) in
    λ is. subst (λ bs. most_content_bytes < c.args.draft.now.size + length bs) whole (c.reserve_container.ensures.too_long is)
