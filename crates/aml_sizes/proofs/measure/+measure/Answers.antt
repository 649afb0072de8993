use Rattle.std.proofs.Common.{◌≡◌, ◌<◌, ◌+◌, ◌-◌, ◌∙◌, length, drop, sym, ap, arith}
use Rattle.std.proofs.lemmas.List.{drop_all}
use Rattle.asl_tree.specs.declared.term.Node.{Node}
use Rattle.aml_sizes.specs.Capped.{capped}
use Rattle.aml_sizes.specs.TermLists.{run_from, own_bytes, terms_bytes, later_of}
use Rattle.aml_sizes.proofs.Weights.{term_weight, form_weight, node_weight}
use Rattle.aml_sizes.proofs.TermLists.{container_is, at_next, later_cons, none_later, terms_longer, capped_run, counted_container}
use Rattle.aml_sizes.proofs.NodePieces.{none_size}
use Rattle.aml_sizes.proofs.measure.+measure.Goals as goal

pub container_size-returns : goal.container_size-returns
container_size-returns t c = λ rest e.
    counted_container c.args.style c.args.op c.args.args.now c.args.body.now c.terms_size-size.result c.args.later rest c.own_size.result c.terms_size-size.ensures e c.own_size.ensures.size

pub listed_size-container_size-requires : goal.listed_size-container_size-requires
listed_size-container_size-requires t c =
    let inside = form_weight c.args.term.now c.in-Form.op c.in-Form.args c.in-Form.body c.deref.result.now c.deref-then-holds_terms.result.now c.in-Form.is c.deref.ensures.value c.deref-then-holds_terms.ensures.value in
    (omega (arith, c.decreases, inside), tt)

pub listed_size-returns-then-holds_terms : goal.listed_size-returns-then-holds_terms
listed_size-returns-then-holds_terms t c = λ rest e.
    c.container_size.ensures rest e
    ∙ ap (λ bs. capped (length bs)) (container_is c.args.style rest c.in-Form.op c.in-Form.args c.in-Form.body c.args.term.now c.deref.result.now c.deref-then-holds_terms.result.now c.in-Form.is c.deref.ensures.value c.deref-then-holds_terms.ensures.value (sym c.holds_terms.ensures ∙ c.if-holds_terms.true))

pub listed_size-returns-else-holds_terms : goal.listed_size-returns-else-holds_terms
listed_size-returns-else-holds_terms t c = λ rest e. c.alone_size.ensures rest

pub listed_size-returns-in_default : goal.listed_size-returns-in_default
listed_size-returns-in_default t c = λ rest e. c.alone_size-in_default.ensures rest

pub terms_size-loop-left-init : goal.terms_size-loop-left-init
terms_size-loop-left-init t c =
    let none = drop_all (length c.args.nodes.now) c.args.nodes.now (omega arith) in
    record {
      within = omega arith;
      size = let no = none_size c.args.style (drop (length c.args.nodes.now) c.args.nodes.now) none in omega (arith, no);
      later = let no = ap (later_of c.args.style) none ∙ none_later c.args.style in omega (arith, no);
    }

pub terms_size-listed_size-own-requires : goal.terms_size-listed_size-own-requires
terms_size-listed_size-own-requires t c =
    let d = c.index-nodes-left.result in
    let inside = node_weight c.args.nodes.now (c.loop-left.left - 1) d (omega arith) in
    let here = ap (λ (n : Node). term_weight n.term) c.index-nodes-left.is in
    (omega (arith, c.decreases, inside, here), tt)

pub terms_size-loop-left-preserved : goal.terms_size-loop-left-preserved
terms_size-loop-left-preserved t c =
    let style = c.args.style in
    let d = c.index-nodes-left.result in
    let i = c.loop-left.left - 1 in
    let left = c.loop-left.left in
    let ns = c.args.nodes.now in
    let rest = drop left ns in
    let e : i + 1 ≡ left = omega arith in
    let lt : i < length ns = omega arith in
    let own = c.listed_size-own.ensures (later_of style rest) c.loop-left.invariant.later in
    let more : length (terms_bytes style (drop i ns)) ≡ length (own_bytes style (later_of style rest) d.term) + length (terms_bytes style rest) =
    at_next (λ ms. length (terms_bytes style ms)) ns i left d e lt c.index-nodes-left.is ∙ terms_longer style d rest in
    let run : later_of style (drop i ns) ≡ run_from d.term (length (own_bytes style (later_of style rest) d.term)) (later_of style rest) =
    at_next (later_of style) ns i left d e lt c.index-nodes-left.is ∙ later_cons style d rest in
    record {
      within = omega arith;
      size = omega (arith, more, own, c.saturating_add-size.ensures, c.loop-left.invariant.size);
      later = c.run_from-later.ensures ∙ capped_run d.term c.listed_size-own.result (length (own_bytes style (later_of style rest) d.term)) c.loop-left.later (later_of style rest) own c.loop-left.invariant.later ∙ ap capped (sym run);
    }
