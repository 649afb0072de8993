use Rattle.std.proofs.Common.{ℕ, ◌+◌, map, sym, ap, ◌∙◌, option_copied}
use Rattle.acpi_extract.specs.Dump.{numbered_from, cut_of}
use Rattle.acpi_extract.specs.Table.{dumped}
use Rattle.acpi_extract.specs.Reading.{after, answer_from}
use Rattle.acpi_extract.proofs.Taking.{blank_halts, header_halts, header_cut, if_err, on_ok}
use Rattle.acpi_extract.proofs.dump.Reader.take_line.Goals as goal

pub returns-then-has_blanks_alone-clause-refused : goal.returns-then-has_blanks_alone-clause-refused
returns-then-has_blanks_alone-clause-refused c =
    let old = c.args.self.now in
    if_err c.close.result (λ halt h lines. blank_halts halt (map dumped old.done) old.unfinished (old.number + 1) c.args.line.now (numbered_from (old.number + 1 + 1) lines) (sym c.has_blanks_alone.ensures ∙ c.if-has_blanks_alone.true) h) c.close.ensures.refused

pub returns-in-Some-clause-taken : goal.returns-in-Some-clause-taken
returns-in-Some-clause-taken c =
    let old = c.args.self.now in
    let new = c.take_header.new.self in
    on_ok c.take_header.result (λ h lines.
    let rest = numbered_from (old.number + 1 + 1) lines in
    ap (after (map dumped old.done)) (header_cut old.unfinished (old.number + 1) c.args.line.now c.in-Some.signature.now rest (sym c.has_blanks_alone.ensures ∙ c.if-has_blanks_alone.false) (sym c.signature_in.ensures.signature ∙ ap option_copied c.in-Some.is))
    ∙ h (cut_of rest)
    ∙ ap (λ (n : ℕ). after (map dumped new.done) (answer_from new.unfinished (cut_of (numbered_from (n + 1) lines)))) (sym c.take_header.ensures.number)) c.take_header.ensures.taken

pub returns-in-Some-clause-refused : goal.returns-in-Some-clause-refused
returns-in-Some-clause-refused c =
    let old = c.args.self.now in
    if_err c.take_header.result (λ halt h lines. header_halts halt (map dumped old.done) old.unfinished (old.number + 1) c.args.line.now c.in-Some.signature.now (numbered_from (old.number + 1 + 1) lines) (sym c.has_blanks_alone.ensures ∙ c.if-has_blanks_alone.false) (sym c.signature_in.ensures.signature ∙ ap option_copied c.in-Some.is) h) c.take_header.ensures.refused
