use Rattle.std.proofs.Common.{◌≡◌, ◌<◌, ◌++◌, ◌∷◌, [], get_or, length, sym, ◌∙◌, subst, arith}
use Rattle.std.proofs.lemmas.List.Elements.{All-same}
use Rattle.acpi_names.specs.Errors.{final}
use Rattle.name_kinds.specs.Ends.{IsMarked, ended}
use Rattle.name_kinds.specs.declared.ends.WalkState.TheVariants as Mark
use Rattle.name_kinds.proofs.Following.{Behind, left, fewer_left, entered, goes_on, stops_behind, returns_here, started, marked_kept, walk_is_marked}
use Rattle.name_kinds.proofs.Noting.{read_at}
use Rattle.name_kinds.proofs.ends.follow.Goals as goal

pub returns-in-OnWalk-clause-ends : goal.returns-in-OnWalk-clause-ends
returns-in-OnWalk-clause-ends g c =
    let walks = c.loop-walks.walks in
    let known = c.loop-walks.invariant in
    let mark = read_at walks.marks.items c.loop-walks.at c.index.result.now Mark.New (omega (arith, known.inside, known.marked.marks)) c.index.ensures ∙ c.in-OnWalk.is in
    returns_here c.args.paths.now g.whole.known walks.chain.items c.loop-walks.at (known.marked.walking c.loop-walks.at mark) known.chain

pub returns-in-Ends-clause-marked : goal.returns-in-Ends-clause-marked
returns-in-Ends-clause-marked g c =
    entered c.args.paths.now g.whole.known c.loop-walks.walks c.enter.new.walks c.loop-walks.at c.loop-walks.invariant.inside c.in_ok-enter.ensures.marks c.in_ok-enter.ensures.ends c.in_ok-enter.ensures.chain c.loop-walks.invariant.marked

pub returns-in-Ends-clause-ends : goal.returns-in-Ends-clause-ends
returns-in-Ends-clause-ends g c =
    let paths = c.args.paths.now in
    let old = c.loop-walks.walks.chain.items in
    All-same (λ n. final g.whole.known (get_or paths n []) ≡ ended paths c.in-Ends.end) c.enter.new.walks.chain.items (old ++ c.loop-walks.at ∷ []) c.in_ok-enter.ensures.chain
    (stops_behind paths g.whole.known old c.loop-walks.at c.in-Ends.end c.in-Ends.ensures c.loop-walks.invariant.chain)

pub loop-walks-smaller : goal.loop-walks-smaller
loop-walks-smaller g c =
    let walks = c.loop-walks.walks in
    let lt : c.loop-walks.at < length walks.marks.items = omega (arith, c.loop-walks.invariant.inside, c.loop-walks.invariant.marked.marks) in
    let mark = read_at walks.marks.items c.loop-walks.at c.index.result.now Mark.New lt c.index.ensures ∙ c.in-New.is in
    subst (λ ms. left ms < left walks.marks.items) (sym c.in_ok-enter.ensures.marks) (fewer_left walks.marks.items c.loop-walks.at lt mark)

pub loop-walks-preserved : goal.loop-walks-preserved
loop-walks-preserved g c =
    let paths = c.args.paths.now in
    let walks = c.loop-walks.walks in
    let at = c.loop-walks.at in
    let known = c.loop-walks.invariant in
    let lt : at < length walks.marks.items = omega (arith, known.inside, known.marked.marks) in
    record {
      inside = c.in-Leads.ensures.0;
      marked = entered paths g.whole.known walks c.enter.new.walks at known.inside c.in_ok-enter.ensures.marks c.in_ok-enter.ensures.ends c.in_ok-enter.ensures.chain known.marked;
      chain = All-same (λ n. Behind g.whole.known (get_or paths c.in-Leads.source []) (get_or paths n [])) c.enter.new.walks.chain.items (walks.chain.items ++ at ∷ []) c.in_ok-enter.ensures.chain
          (goes_on paths g.whole.known walks.chain.items at c.in-Leads.source c.in-Leads.ensures.1 known.chain);
      start = λ e. absurd (subst (λ ms. IsMarked ms c.args.start) (sym c.in_ok-enter.ensures.marks) (started walks.marks.items at c.args.start lt known.start) e);
      others = λ n h. subst (λ ms. IsMarked ms n) (sym c.in_ok-enter.ensures.marks) (marked_kept walks.marks.items at n Mark.OnWalk lt walk_is_marked (known.others n h));
    }
