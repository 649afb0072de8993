use Rattle.std.proofs.Common.{[], ◌++◌, get_or, sym, subst}
use Rattle.asl_meaning.specs.Declarations.{is_named}
use Rattle.acpi_names.specs.Shown.{shown}
use Rattle.name_entries.specs.Uses.{Denotes, used_by}
use Rattle.name_entries.proofs.Noting.{put_use}
use Rattle.name_entries.proofs.uses.note.Goals as goal

pub returns-in_ok-put-in-Used : goal.returns-in_ok-put-in-Used
returns-in_ok-put-in-Used c d before agrees denotes =
    let paths = c.args.index.now.paths in
    subst (λ m. Denotes paths (is_named d) c.put.new.uses.items (used_by (shown paths m) ++ before)) (sym c.in-Used.is)
    (put_use paths (is_named d) c.args.uses.now.items c.put.new.uses.items c.target.result (record { node = c.in-Used.at.id; name = c.in-Used.name.now; scope = get_or paths c.in-Used.scope [] }) before c.in_ok-put-in-Used.ensures (c.target.ensures d agrees) denotes)

pub returns-in_ok-put-in-Sought : goal.returns-in_ok-put-in-Sought
returns-in_ok-put-in-Sought c d before agrees denotes =
    let paths = c.args.index.now.paths in
    subst (λ m. Denotes paths (is_named d) c.put-in-Sought.new.uses.items (used_by (shown paths m) ++ before)) (sym c.in-Sought.is)
    (put_use paths (is_named d) c.args.uses.now.items c.put-in-Sought.new.uses.items c.target-in-Sought.result (record { node = c.in-Sought.at.id; name = c.in-Sought.name.now; scope = get_or paths c.in-Sought.scope [] }) before c.in_ok-put-in-Sought.ensures (c.target-in-Sought.ensures d agrees) denotes)

pub returns-in_ok-put-in-Called : goal.returns-in_ok-put-in-Called
returns-in_ok-put-in-Called c d before agrees denotes =
    let paths = c.args.index.now.paths in
    subst (λ m. Denotes paths (is_named d) c.put-in-Called.new.uses.items (used_by (shown paths m) ++ before)) (sym c.in-Called.is)
    (put_use paths (is_named d) c.args.uses.now.items c.put-in-Called.new.uses.items c.target-in-Called.result (record { node = c.in-Called.at.id; name = c.in-Called.name.now; scope = get_or paths c.in-Called.scope [] }) before c.in_ok-put-in-Called.ensures (c.target-in-Called.ensures d agrees) denotes)

pub returns-in_ok-put-in-Opens : goal.returns-in_ok-put-in-Opens
returns-in_ok-put-in-Opens c d before agrees denotes =
    let paths = c.args.index.now.paths in
    subst (λ m. Denotes paths (is_named d) c.put-in-Opens.new.uses.items (used_by (shown paths m) ++ before)) (sym c.in-Opens.is)
    (put_use paths (is_named d) c.args.uses.now.items c.put-in-Opens.new.uses.items c.target-in-Opens.result (record { node = c.in-Opens.at.id; name = c.in-Opens.name.now; scope = get_or paths c.in-Opens.scope [] }) before c.in_ok-put-in-Opens.ensures (c.target-in-Opens.ensures d agrees) denotes)

pub returns-in-Declares : goal.returns-in-Declares
returns-in-Declares c d before agrees denotes =
    let paths = c.args.index.now.paths in
    subst (λ m. Denotes paths (is_named d) c.args.uses.now.items (used_by (shown paths m) ++ before)) (sym c.in-Declares.is) denotes

pub returns-in-Outside : goal.returns-in-Outside
returns-in-Outside c d before agrees denotes =
    let paths = c.args.index.now.paths in
    subst (λ m. Denotes paths (is_named d) c.args.uses.now.items (used_by (shown paths m) ++ before)) (sym c.in-Outside.is) denotes
