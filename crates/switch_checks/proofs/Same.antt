-- When the derived test says that two values are equal.
use Rattle.std.proofs.Common.{◌≡◌, Bool, refl}
use Rattle.switch_checks.specs.declared.value.CaseValue as D
use Rattle.switch_checks.specs.contracts.value.CaseValuePartialEq.TheImpl as Eq
use Rattle.switch_checks.specs.Values.{is_same, shown}

abbrev pub value_eq : D.CaseValue → D.CaseValue → Bool
value_eq a b = (Eq.eq-value).it a b

pub same_value : (a b : D.CaseValue) → value_eq a b ≡ is_same (shown a) (shown b)
same_value (D.CaseValue.Integer n) (D.CaseValue.Integer m) = refl
same_value (D.CaseValue.Integer n) (D.CaseValue.String ys) = refl
same_value (D.CaseValue.Integer n) (D.CaseValue.Buffer m ys) = refl
same_value (D.CaseValue.String xs) (D.CaseValue.Integer m) = refl
same_value (D.CaseValue.String xs) (D.CaseValue.String ys) = refl
same_value (D.CaseValue.String xs) (D.CaseValue.Buffer m ys) = refl
same_value (D.CaseValue.Buffer n xs) (D.CaseValue.Integer m) = refl
same_value (D.CaseValue.Buffer n xs) (D.CaseValue.String ys) = refl
same_value (D.CaseValue.Buffer n xs) (D.CaseValue.Buffer m ys) = refl
