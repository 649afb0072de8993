-- What a table of labels tells.
use Rattle.std.specs.Prelude.{◌≡◌, ℕ, cond, List, Some, None}
use Rattle.std.specs.declared.option.Option.{Option}
use Rattle.std.specs.Str.{bytes_eq}
use Rattle.std.specs.HashMap.{get_by}
use Rattle.data_text.specs.declared.field_line.FieldLine.{FieldLine}
use Rattle.data_generic.specs.declared.labels.Label.{Label}
use Rattle.data_generic.specs.declared.labels.Labels.{Labels}
use Rattle.data_generic.specs.Words.{name_key}
use Rattle.data_generic.specs.Labels.{label_from, label_of}

-- the label that the table has for a name in lower case
abbrev pub label_at : Labels → List ℕ → Option Label
label_at labels name = get_by (λ key. bytes_eq name key.items) labels.table

-- a label that was there stays
abbrev pub or_else : Option Label → Option Label → Option Label
or_else None other = other
or_else (Some label) other = Some label

abbrev pub with_label : List ℕ → Label → Option Label → List ℕ → Option Label
with_label name label found key = or_else found (cond (bytes_eq key name) (Some label) None)

-- the label of a name, where these lines are still to come
abbrev pub told_with : Labels → List ℕ → ℕ → Option ℕ → List FieldLine → Option Label
told_with labels key index offset lines = or_else (label_at labels key) (label_from key index offset lines)

-- the label that the table has for a name
abbrev pub label_for : Labels → List ℕ → Option Label
label_for labels name = label_at labels (name_key name)

-- for every name the table has its first label
abbrev pub AreLabelsOf : Labels → List FieldLine → Type 0
AreLabelsOf labels lines = (name : List ℕ) → label_for labels name ≡ label_of lines name
