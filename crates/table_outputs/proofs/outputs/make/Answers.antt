use Rattle.std.proofs.Common.{◌≡◌, refl, sym, subst}
use Rattle.std.specs.List.{All}
use Rattle.table_outputs.specs.Decision.{kinds_of}
use Rattle.table_outputs.proofs.KindLaws.{still_there, kept_there}
use Rattle.table_outputs.proofs.outputs.make.Goals as goal

pub copy_tables-requires-clause-there : goal.copy_tables-requires-clause-there
copy_tables-requires-clause-there g c = kept_there (λ b. (goal.Backend-dyn g (b.vtable, b.value)).kind_of b.value) c.asked_of-asked.result c.args.backends.now.items c.keep_asked.new.backends.items c.keep_asked.ensures c.requires.boxes

pub returns-clause-texts : goal.returns-clause-texts
returns-clause-texts g c =
    let asked = c.asked_of-asked.result in
    let before = c.keep_asked.new.backends.items in
    let there = kept_there (λ b. (goal.Backend-dyn g (b.vtable, b.value)).kind_of b.value) asked c.args.backends.now.items before c.keep_asked.ensures c.requires.boxes in
    record {
      over = subst (λ table. All (λ b. (goal.Backend-dyn g (b.vtable, b.value)).pieces b.value ≡ table) c.render_all.new.backends.items) c.as_slice-2.ensures c.in_ok-render_all.ensures.shared;
      finished = c.in_ok-render_all.ensures.done;
      there = still_there (λ b. (goal.Backend-dyn g (b.vtable, b.value)).kind_of b.value) asked (kinds_of c.args.making.now.names) c.copy_tables.new.backends.items c.render_all.new.backends.items (sym c.asked_of-asked.ensures) c.render_all.ensures.kinds
          (still_there (λ b. (goal.Backend-dyn g (b.vtable, b.value)).kind_of b.value) asked asked before c.copy_tables.new.backends.items refl c.copy_tables.ensures.kept there);
    }
