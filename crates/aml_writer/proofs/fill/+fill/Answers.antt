use Rattle.std.proofs.Common.{ℕ, List, ◌≡◌, ◌≤◌, ◌+◌, ◌-◌, ◌<◌, length, drop, sym, ap, ◌∙◌, subst, arith}
use Rattle.std.proofs.lemmas.List.{drop_all}
use Rattle.asl_tree.specs.declared.term.Node.{Node}
use Rattle.aml_sizes.specs.TermLists.{run_from, own_bytes, terms_bytes, later_of}
use Rattle.aml_writer.specs.Fills.{EndsIn, Fills}
use Rattle.aml_sizes.proofs.Weights.{term_weight, form_weight, node_weight}
use Rattle.aml_sizes.proofs.TermLists.{at_next, later_cons, none_later, later_within, container_is, container_length}
use Rattle.aml_sizes.proofs.NodePieces.{grown_by, next_size, none_size}
use Rattle.aml_writer.proofs.Parts.{own_ends, own_head_ends, own_filled, none_parts, node_ends, next_filled, container_parts}
use Rattle.aml_writer.proofs.fill.+fill.Goals as goal

pub fill_own-fill_terms-requires : goal.fill_own-fill_terms-requires
fill_own-fill_terms-requires t c = (omega (arith, c.decreases), own_ends c.args.style c.args.op c.args.args.now c.args.body.now c.args.later c.args.filling.now.spaces.items c.requires.ends)

pub fill_own-fill_head-requires-clause-ends : goal.fill_own-fill_head-requires-clause-ends
fill_own-fill_head-requires-clause-ends t c =
    own_head_ends c.args.style c.args.op c.args.args.now c.args.body.now c.args.later (c.fill_terms.new.filling.size - c.args.filling.now.size) c.args.filling.now.spaces.items c.fill_terms.new.filling.spaces.items c.args.filling.now.pieces.items c.fill_terms.new.filling.pieces.items
    c.requires.ends c.fill_terms.ensures.fills (grown_by _ _ _ c.fill_terms.ensures.size)

pub fill_own-fill_head-requires-clause-size : goal.fill_own-fill_head-requires-clause-size
fill_own-fill_head-requires-clause-size t c =
    let within = c.fill_terms.new.filling.within in
    let before = c.args.filling.now.within in
    omega (arith, within, before, c.requires.later)

pub fill_own-returns-clause-fills : goal.fill_own-returns-clause-fills
fill_own-returns-clause-fills t c =
    own_filled c.args.style c.args.op c.args.args.now c.args.body.now c.args.later (c.fill_terms.new.filling.size - c.args.filling.now.size)
    c.args.filling.now.spaces.items c.fill_terms.new.filling.spaces.items c.fill_head.new.filling.spaces.items c.args.filling.now.pieces.items c.fill_terms.new.filling.pieces.items c.fill_head.new.filling.pieces.items c.fill_terms.ensures.fills c.fill_head.ensures.fills (grown_by _ _ _ c.fill_terms.ensures.size)

pub fill_own-returns-clause-size : goal.fill_own-returns-clause-size
fill_own-returns-clause-size t c =
    let whole = container_length c.args.style c.args.op c.args.args.now c.args.body.now (c.fill_terms.new.filling.size - c.args.filling.now.size) c.args.later (grown_by _ _ _ c.fill_terms.ensures.size) in
    omega (arith, whole, c.fill_terms.ensures.size, c.fill_head.ensures.size)

pub fill_term-fill_own-requires : goal.fill_term-fill_own-requires
fill_term-fill_own-requires t c =
    let inside = form_weight c.args.node.now.term c.in-Form.op c.in-Form.args c.in-Form.body c.deref-then-holds_terms.result.now c.deref.result.now c.in-Form.is c.deref-then-holds_terms.ensures.value c.deref.ensures.value in
    let parts = container_parts c.args.style c.args.later c.args.node.now.place c.in-Form.op c.in-Form.args c.in-Form.body c.args.node.now.term c.deref-then-holds_terms.result.now c.deref.result.now c.in-Form.is c.deref-then-holds_terms.ensures.value c.deref.ensures.value (sym c.holds_terms.ensures ∙ c.if-holds_terms.true) in
    (omega (arith, c.decreases, inside), (subst (EndsIn c.args.filling.now.spaces.items) parts c.requires.ends, c.requires.later))

pub fill_term-returns-then-holds_terms-clause-fills : goal.fill_term-returns-then-holds_terms-clause-fills
fill_term-returns-then-holds_terms-clause-fills t c =
    subst (λ parts. Fills parts c.args.filling.now.spaces.items c.fill_own.new.filling.spaces.items c.args.filling.now.pieces.items c.fill_own.new.filling.pieces.items)
    (sym (container_parts c.args.style c.args.later c.args.node.now.place c.in-Form.op c.in-Form.args c.in-Form.body c.args.node.now.term c.deref-then-holds_terms.result.now c.deref.result.now c.in-Form.is c.deref-then-holds_terms.ensures.value c.deref.ensures.value (sym c.holds_terms.ensures ∙ c.if-holds_terms.true))) c.fill_own.ensures.fills

pub fill_term-returns-then-holds_terms-clause-size : goal.fill_term-returns-then-holds_terms-clause-size
fill_term-returns-then-holds_terms-clause-size t c =
    c.fill_own.ensures.size ∙ ap (λ bs. c.args.filling.now.size + length bs) (container_is c.args.style c.args.later c.in-Form.op c.in-Form.args c.in-Form.body c.args.node.now.term c.deref-then-holds_terms.result.now c.deref.result.now c.in-Form.is c.deref-then-holds_terms.ensures.value c.deref.ensures.value (sym c.holds_terms.ensures ∙ c.if-holds_terms.true))

pub fill_terms-loop-left-init : goal.fill_terms-loop-left-init
fill_terms-loop-left-init t c =
    let none = drop_all (length c.args.nodes.now) c.args.nodes.now (omega arith) in
    record {
      within = omega arith;
      later = sym (ap (later_of c.args.style) none ∙ none_later c.args.style);
      fills = none_parts c.args.style (drop (length c.args.nodes.now) c.args.nodes.now) c.args.filling.now.spaces.items c.args.filling.now.pieces.items none;
      size = let no = none_size c.args.style (drop (length c.args.nodes.now) c.args.nodes.now) none in omega (arith, no);
    }

pub fill_terms-fill_term-requires : goal.fill_terms-fill_term-requires
fill_terms-fill_term-requires t c =
    let d = c.index-nodes-left.result in
    let i = c.loop-left.left - 1 in
    let ns = c.args.nodes.now in
    let inside = node_weight ns i d (omega arith) in
    let here = ap (λ (n : Node). term_weight n.term) c.index-nodes-left.is in
    let run = later_within c.args.style (drop c.loop-left.left ns) in (
      omega (arith, c.decreases, inside, here),
      (
        node_ends c.args.style ns i c.loop-left.left c.loop-left.later d c.args.filling.now.spaces.items c.loop-left.filling.spaces.items c.args.filling.now.pieces.items c.loop-left.filling.pieces.items (omega arith) (omega arith) c.index-nodes-left.is c.loop-left.invariant.later c.requires c.loop-left.invariant.fills,
        omega (arith, run, c.loop-left.invariant.later, c.loop-left.invariant.size),
      ),
    )

pub fill_terms-loop-left-preserved : goal.fill_terms-loop-left-preserved
fill_terms-loop-left-preserved t c =
    let style = c.args.style in
    let d = c.index-nodes-left.result in
    let i = c.loop-left.left - 1 in
    let left = c.loop-left.left in
    let ns = c.args.nodes.now in
    let e : i + 1 ≡ left = omega arith in
    let lt : i < length ns = omega arith in
    let size = next_size style ns i left c.loop-left.later d c.loop-left.filling.size c.fill_term.new.filling.size _ e lt c.index-nodes-left.is c.loop-left.invariant.later c.loop-left.invariant.size c.fill_term.ensures.size in
    let own : c.fill_term.new.filling.size - c.loop-left.filling.size ≡ length (own_bytes style c.loop-left.later d.term) = grown_by _ _ _ c.fill_term.ensures.size in
    let run : later_of style (drop i ns) ≡ run_from d.term (c.fill_term.new.filling.size - c.loop-left.filling.size) c.loop-left.later =
    at_next (later_of style) ns i left d e lt c.index-nodes-left.is ∙ later_cons style d (drop left ns)
    ∙ ap (λ n. run_from d.term (length (own_bytes style n d.term)) n) (sym c.loop-left.invariant.later) ∙ ap (λ n. run_from d.term n c.loop-left.later) (sym own) in
    let few = later_within style (drop i ns) in
    let most = c.fill_term.new.filling.within in
    record {
      within = omega arith;
      later = omega (arith, c.run_from-later.ensures, run, few, size, most);
      fills = next_filled style ns i left c.loop-left.later d c.args.filling.now.spaces.items c.loop-left.filling.spaces.items c.fill_term.new.filling.spaces.items c.args.filling.now.pieces.items c.loop-left.filling.pieces.items c.fill_term.new.filling.pieces.items e lt c.index-nodes-left.is c.loop-left.invariant.later c.loop-left.invariant.fills c.fill_term.ensures.fills;
      size = size;
    }
