use Rattle.std.proofs.Common.{◌≡◌, List, [], ◌∷◌, ◌++◌, sym, ap, subst, ◌∙◌, ◌<◌, length}
use Rattle.iasl_ports.specs.Delivery.{Answer}
use Rattle.table_outputs.specs.declared.decision.TableOutputs.{TableOutputs}
use Rattle.iasl_tool.proofs.Outputs.{all_split, last_split, kinds_split}
use Rattle.iasl_tool.proofs.due.decide_made.Goals as goal

-- the last of a list that is taken off
taken_off : (tables all before kept : List TableOutputs) (last : TableOutputs) → all ≡ tables → all ≡ before ++ last ∷ [] → kept ≡ before → tables ≡ kept ++ last ∷ []
taken_off tables all before kept last same split e = sym same ∙ split ∙ ap (λ es. es ++ last ∷ []) (sym e)

pub take_last-names-requires : goal.take_last-names-requires
take_last-names-requires c = subst (λ (tables : List TableOutputs). 0 < length tables) (sym c.into_vec-earlier.ensures) c.requires

pub returns-clause-due : goal.returns-clause-due
returns-clause-due c =
    let split = taken_off c.args.tables c.into_vec-earlier.result.items c.take_last-names.new.tables.items c.from_vec.result c.take_last-names.result c.into_vec-earlier.ensures c.take_last-names.ensures c.from_vec.ensures in
    ap {B = Answer} (λ due. record { status = 0; text = c.args.text; due = due }) (all_split c.args.tables c.from_vec.result c.take_last-names.result split)

pub returns-clause-decided : goal.returns-clause-decided
returns-clause-decided c = λ asked compiles kinds.
    let split = taken_off c.args.tables c.into_vec-earlier.result.items c.take_last-names.new.tables.items c.from_vec.result c.take_last-names.result c.into_vec-earlier.ensures c.take_last-names.ensures c.from_vec.ensures in
    let both = kinds_split c.args.tables c.from_vec.result c.take_last-names.result split _ kinds in
    (compiles, both.0, both.1)

pub returns-clause-made : goal.returns-clause-made
returns-clause-made c =
    let split = taken_off c.args.tables c.into_vec-earlier.result.items c.take_last-names.new.tables.items c.from_vec.result c.take_last-names.result c.into_vec-earlier.ensures c.take_last-names.ensures c.from_vec.ensures in
    last_split c.args.tables c.from_vec.result c.take_last-names.result split
