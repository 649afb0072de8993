use Rattle.std.proofs.Common.{ℕ, ◌≤◌, List, length, ap, sym, subst, ◌∙◌}
use Rattle.iasl_ports.specs.Fetched.{most_bytes}
use Rattle.asl_preprocess.specs.Search.{Whole}
use Rattle.asl_preprocess.specs.State.{number_of, with_file, with_files}
use Rattle.asl_preprocess.specs.Told.{Shows}
use Rattle.asl_preprocess.proofs.Rowing.{search_seeks, search_counts, refuses_missing, refuses_large}
use Rattle.asl_preprocess.proofs.reading.seek.Goals as goal

pub returns-in-Err-clause-refused : goal.returns-in-Err-clause-refused
returns-in-Err-clause-refused g c = search_seeks c.in-Err.stop _ _ c.args.wanted.now _ _ _ _ c.in-Err.ensures.fault

pub returns-in-Err-clause-fault : goal.returns-in-Err-clause-fault
returns-in-Err-clause-fault g c = search_counts c.in-Err.stop _ _ c.in-Err.ensures.fault

pub returns-in-Ok-Missing-clause-refused : goal.returns-in-Ok-Missing-clause-refused
returns-in-Ok-Missing-clause-refused g c =
    refuses_missing c.refusal.result c.args.wanted.now c.as_bytes-in-Ok-Missing.result.now _ _ _ c.as_bytes-in-Ok-Missing.ensures c.refusal.ensures (rw c.in-Ok-Missing.field-0-is at c.in-Ok-Missing.ensures.found)

pub returns-in-Ok-Large-clause-refused : goal.returns-in-Ok-Large-clause-refused
returns-in-Ok-Large-clause-refused g c =
    refuses_large c.refusal-in-Ok-Large.result c.args.wanted.now _ _ _ c.refusal-in-Ok-Large.ensures (rw c.in-Ok-Large.field-0-is at c.in-Ok-Large.ensures.found)

pub returns-in-Ok-from_vec-clause-shows : goal.returns-in-Ok-from_vec-clause-shows
returns-in-Ok-from_vec-clause-shows g c = λ state shows.
    let P : List ℕ → Type 0 = λ n. Shows c.add_file.new.self (with_files state (with_file n state.files)) in
    subst P c.as_bytes.ensures (c.in-Ok.ensures.shows state shows)

pub returns-in-Ok-from_vec-clause-number : goal.returns-in-Ok-from_vec-clause-number
returns-in-Ok-from_vec-clause-number g c = c.in-Ok.ensures.number ∙ ap (λ (n : List ℕ). number_of n c.add_file.new.self.files) c.as_bytes.ensures

pub returns-in-Ok-from_vec-clause-within : goal.returns-in-Ok-from_vec-clause-within
returns-in-Ok-from_vec-clause-within g c = c.in-Ok.ensures.within

pub returns-in-Ok-from_vec-clause-found : goal.returns-in-Ok-from_vec-clause-found
returns-in-Ok-from_vec-clause-found g c told k = (rw c.in-Ok-Whole.field-0-is at c.in-Ok-Whole.ensures.found) told k ∙ ap (Whole c.in-Ok-Whole.name) (sym c.in-Ok-from_vec.ensures)

pub returns-in-Ok-from_vec-clause-size : goal.returns-in-Ok-from_vec-clause-size
returns-in-Ok-from_vec-clause-size g c =
    let P : List ℕ → Type 0 = λ b. length b ≤ most_bytes in
    subst P (sym c.in-Ok-from_vec.ensures) (rw c.in-Ok-Whole.field-0-is at c.in-Ok-Whole.ensures.size)
