use Rattle.std.proofs.Common.{[], ◌∷◌, ◌++◌, get_or, sym, subst}
use Rattle.asl_meaning.specs.Declarations.{is_named, called, with_declared, with_external, in_root, ExternalType}
use Rattle.acpi_names.specs.Mentions.{call_in, after}
use Rattle.acpi_names.specs.Shown.{shown, declared_as, written_as}
use Rattle.asl_tree.specs.Names.{declared_path}
use Rattle.name_kinds.proofs.Noting.{noted_plain}
use Rattle.name_kinds.specs.Tables.{TablesSay}
use Rattle.name_kinds.proofs.tables.note.Goals as goal

pub returns-in-Some-clause-noted : goal.returns-in-Some-clause-noted
returns-in-Some-clause-noted g c calls d notes =
    let paths = c.args.index.now.paths in
    let has = is_named g.whole.all in
    subst (λ m. TablesSay paths has c.note_call.new.tables (calls ++ called (call_in has (shown paths m))) (after (shown paths m) d)) (sym c.in-Called.is)
    (subst (λ o. TablesSay paths has c.note_call.new.tables (calls ++ called ((o, c.in-Called.args) ∷ [])) d) c.in-Some.ensures.path (c.note_call.ensures.noted has calls d notes))

pub returns-in-Declares-clause-noted : goal.returns-in-Declares-clause-noted
returns-in-Declares-clause-noted g c calls d notes =
    let paths = c.args.index.now.paths in
    let has = is_named g.whole.all in
    let what = declared_as paths c.in-Declares.what in
    subst (λ m. TablesSay paths has c.note_declared.new.tables (calls ++ called (call_in has (shown paths m))) (after (shown paths m) d)) (sym c.in-Declares.is)
    (noted_plain paths has c.note_declared.new.tables calls (with_declared (declared_path (written_as c.in-Declares.name) (get_or paths c.in-Declares.scope [])) what d)
    (subst (λ p. TablesSay paths has c.note_declared.new.tables calls (with_declared p what d)) c.declared_with-number.ensures.path (c.note_declared.ensures.noted has calls d what c.declared_kind-kind.ensures notes)))

pub returns-in-Outside-clause-noted : goal.returns-in-Outside-clause-noted
returns-in-Outside-clause-noted g c calls d notes =
    let paths = c.args.index.now.paths in
    let has = is_named g.whole.all in
    let external : ExternalType = record { type = c.in-Outside.object; parameters = c.in-Outside.parameters } in
    subst (λ m. TablesSay paths has c.note_outside.new.tables (calls ++ called (call_in has (shown paths m))) (after (shown paths m) d)) (sym c.in-Outside.is)
    (noted_plain paths has c.note_outside.new.tables calls (with_external (in_root (declared_path c.in-Outside.name.now (get_or paths c.in-Outside.scope []))) (declared_path c.in-Outside.name.now (get_or paths c.in-Outside.scope [])) external d)
    (subst (λ p. TablesSay paths has c.note_outside.new.tables calls (with_external (in_root p) p external d)) c.declared_at-number.ensures.path (c.note_outside.ensures.noted has calls d notes)))
