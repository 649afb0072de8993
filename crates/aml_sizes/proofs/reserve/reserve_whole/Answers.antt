use Rattle.std.proofs.Common.{◌≡◌, ◌++◌, ◌∷◌, [], ◌∙◌, length, sym, ap, subst, arith}
use Rattle.std.proofs.lemmas.Result.{on_ok_weaker}
use Rattle.aml_sizes.specs.TermBytes.{term_bytes}
use Rattle.aml_sizes.specs.PackageLengths.{own_lengths, Noted}
use Rattle.aml_sizes.specs.Rooms.{blanks, sizes}
use Rattle.aml_sizes.proofs.TermLists.{alone_is}
use Rattle.aml_sizes.proofs.ListLengths.{alone_lengths_are}
use Rattle.aml_sizes.proofs.NodePieces.{whole_of}
use Rattle.aml_sizes.proofs.Rooms.{on_ok_always, on_ok_with}
use Rattle.aml_sizes.proofs.reserve.reserve_whole.Goals as goal

pub returns-clause-pieces : goal.returns-clause-pieces
returns-clause-pieces c = λ later.
    on_ok_weaker c.push.result
    (λ is. is ∙ ap (λ ps. c.args.draft.now.pieces.items ++ blanks ps) (sym (whole_of c.args.style c.args.lines.now later c.args.place c.args.term.now c.requires)))
    c.push.ensures.pieces

pub returns-clause-spaces : goal.returns-clause-spaces
returns-clause-spaces c = λ later.
    on_ok_with c.push.result
    (λ is few.
    let exact : c.term_size-size.result ≡ length (term_bytes c.args.style c.args.term.now) = omega (arith, few, c.term_size-size.ensures.size) in
    is ∙ ap (λ n. c.args.draft.now.spaces.items ++ n ∷ []) exact ∙ ap (λ ps. c.args.draft.now.spaces.items ++ sizes ps) (sym (whole_of c.args.style c.args.lines.now later c.args.place c.args.term.now c.requires)))
    c.push.ensures.spaces c.push.ensures.few

pub returns-clause-size : goal.returns-clause-size
returns-clause-size c = λ later.
    let whole = ap length (alone_is c.args.style later c.args.term.now c.requires) in
    on_ok_with c.push.result (λ is few. omega (arith, is, few, whole, c.term_size-size.ensures.size)) c.push.ensures.size c.push.ensures.few

pub returns-clause-lengths : goal.returns-clause-lengths
returns-clause-lengths c = λ later.
    on_ok_always c.push.result
    (subst (λ n. Noted (own_lengths c.args.style later c.args.term.now) c.args.draft.now.notes n) (sym c.push.ensures.notes) (subst (λ ls. Noted ls c.args.draft.now.notes c.term_size-size.new.notes) (sym (alone_lengths_are c.args.style later c.args.term.now c.requires)) c.term_size-size.ensures.lengths))

pub returns-clause-too_long : goal.returns-clause-too_long
returns-clause-too_long c = λ later is.
    let whole = ap length (alone_is c.args.style later c.args.term.now c.requires) in
    omega (arith, c.push.ensures.too_long is, whole, c.term_size-size.ensures.size)
