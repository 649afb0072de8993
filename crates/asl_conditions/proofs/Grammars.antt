-- What the tokens spell is what is read, and nothing else is.
use Rattle.std.proofs.Common.{◌≡◌, ℕ, zero, suc, ◌+◌, ◌<◌, ◌≤◌, Bool, true, false, List, [], ◌∷◌, ◌++◌, length, Option, Some, None, refl, sym, ap, subst, ◌∙◌, arith}
use Rattle.std.proofs.lemmas.Bool.{lt-ltb, ltb-true}
use Rattle.std.specs.Prelude.{nat_lt, if◌then◌else◌}
use Rattle.std.specs.Option.{option_and_then, option_map}
use Rattle.asl_conditions.specs.declared.operators.ConditionPrefix.{ConditionPrefix}
use Rattle.asl_conditions.specs.declared.operators.ConditionInfix.{ConditionInfix}
use Rattle.asl_conditions.specs.declared.operators.Operand.{Operand}
use Rattle.asl_conditions.specs.declared.tokens.ConditionToken.{ConditionToken}
use Rattle.asl_conditions.specs.declared.tokens.ConditionToken.TheVariants as t
use Rattle.asl_conditions.specs.declared.opened.Opened.{Opened}
use Rattle.asl_conditions.specs.declared.opened.Opened.TheVariants as o
use Rattle.asl_conditions.specs.declared.reader.Phase.{Phase}
use Rattle.asl_conditions.specs.declared.reader.Phase.TheVariants as p
use Rattle.asl_conditions.specs.declared.reader.ConditionReader.{ConditionReader}
use Rattle.asl_conditions.specs.Operators.{truth, apply_prefix, operand, row_value}
use Rattle.asl_conditions.specs.Reading.{limit, reader, has_prefix, whole, open_more, closed, step, step_by, finish_by, run, value_of}
use Rattle.asl_conditions.specs.Grammar.{ConditionPhrase, part, front, row, SpellsPhrase, IsValue}
use Rattle.asl_conditions.specs.Grammar as g
use Rattle.asl_conditions.proofs.Worths.{value_is_worth, worth_is_value}

-- ---- what is spelled so is read

goes : (r next : ConditionReader) (token : ConditionToken) (rest : List ConditionToken) → step r token ≡ Some next → run r (token ∷ rest) ≡ run next rest
unfolding run
goes r next token rest e = ap (option_and_then (λ q. run q rest)) e

opens : (xs : List Operand) (opened : List Opened) (new : Opened) → length opened < limit → open_more xs opened new ≡ Some (reader p.Operand xs (new ∷ opened))
opens xs opened new h = ap (λ b. if b then Some (reader p.Operand xs (new ∷ opened)) else None) (lt-ltb (length opened) limit h)

opens_name : (xs : List Operand) (opened : List Opened) → length opened < limit → (if nat_lt (length opened) limit then Some (reader p.DefinedParenthesis xs opened) else None) ≡ Some (reader p.DefinedParenthesis xs opened)
opens_name xs opened h = ap (λ b. if b then Some (reader p.DefinedParenthesis xs opened) else None) (lt-ltb (length opened) limit h)

-- where no prefix operator waits, an operand is whole at once
whole_alone : (xs : List Operand) (opened : List Opened) (x : ℕ) → has_prefix opened ≡ false → whole xs opened x ≡ reader (p.Operator x) xs opened
whole_alone xs [] x h = refl
whole_alone xs (o.Prefix q ∷ opened) x h = absurd cc
whole_alone xs (o.Parenthesis outer ∷ opened) x h = refl

-- what reading a phrase comes to
abbrev Runs : ℕ → ConditionPhrase → List ConditionToken → List ConditionToken → Type 0
Runs d (part x) ms rest = (xs : List Operand) (opened : List Opened) → length opened + d ≤ limit → run (reader p.Operand xs opened) ms ≡ run (whole xs opened x) rest
Runs d (front xs) ms rest = (opened : List Opened) → has_prefix opened ≡ false → length opened + d ≤ limit → run (reader p.Operand [] opened) ms ≡ run (reader p.Operand xs opened) rest
Runs d (row xs x) ms rest = (opened : List Opened) → has_prefix opened ≡ false → length opened + d ≤ limit → run (reader p.Operand [] opened) ms ≡ run (reader (p.Operator x) xs opened) rest

runs : {d : ℕ} {phrase : ConditionPhrase} {ms rest : List ConditionToken} → SpellsPhrase d phrase ms rest → Runs d phrase ms rest
unfolding run step
runs (g.a_number {n = n} {rest = rest}) = λ xs opened h. refl
runs (g.a_name {b = b} {rest = rest}) = λ xs opened h. refl
runs (g.a_defined {b = b} {c = c} {rest = rest}) = λ xs opened h. refl
runs (g.a_defined_word {b = b} {c = c} {rest = rest}) = λ xs opened h. refl
runs (g.in_parentheses {open_most = d} {b = b} {c = c} {rest = rest}) = λ xs opened h.
    ap (option_and_then (λ q. run q (t.Name b ∷ t.Close ∷ rest))) (opens_name xs opened (omega arith))
runs (g.word_in_parentheses {open_most = d} {b = b} {c = c} {rest = rest}) = λ xs opened h.
    ap (option_and_then (λ q. run q (t.Defined b ∷ t.Close ∷ rest))) (opens_name xs opened (omega arith))
runs (g.a_prefix {open_most = d} {x = x} {o = q} {ms = ms} {rest = rest} inner) = λ xs opened h.
    goes (reader p.Operand xs opened) (reader p.Operand xs (o.Prefix q ∷ opened)) (t.Prefix q) ms (opens xs opened (o.Prefix q) (omega arith)) ∙ runs inner xs (o.Prefix q ∷ opened) (omega arith)
runs (g.a_group {open_most = d} {x = x} {last = last} {xs = ys} {ms = ms} {rest = rest} inner worth) = λ xs opened h.
    goes (reader p.Operand xs opened) (reader p.Operand [] (o.Parenthesis xs ∷ opened)) t.Open ms (opens [] opened (o.Parenthesis xs) (omega arith)) ∙ runs inner (o.Parenthesis xs ∷ opened) refl (omega arith)
    ∙ goes (reader (p.Operator last) ys (o.Parenthesis xs ∷ opened)) (whole xs opened x) t.Close rest (ap (option_map (λ v. whole xs opened v)) (worth_is_value ys last x worth))
runs g.no_operand = λ opened no h. refl
runs (g.one_more {x = x} {o = q} {xs = xs} {ms = ms} {mid = mid} {rest = rest} before inner) = λ opened no h.
    runs before opened no h ∙ runs inner xs opened h ∙ ap (λ r. run r (t.Infix q ∷ rest)) (whole_alone xs opened x no)
runs (g.a_row {x = x} {xs = xs} {ms = ms} {mid = mid} {rest = rest} before inner) = λ opened no h.
    runs before opened no h ∙ runs inner xs opened h ∙ ap (λ r. run r rest) (whole_alone xs opened x no)

pub value_is_read : (tokens : List ConditionToken) (value : ℕ) → IsValue tokens value → value_of tokens ≡ Some value
unfolding run
value_is_read tokens value is = runs is.spells [] refl (omega arith) ∙ worth_is_value is.operands is.last value is.worth

-- ---- what is read is spelled so

-- the tokens up to those of the last list leave these open, with so many levels left
data Held (all : List ConditionToken) : ℕ → List Operand → List Opened → List ConditionToken → Type 0 where
  at_top : {xs : List Operand} {rest : List ConditionToken} → SpellsPhrase limit (front xs) all rest → Held all limit xs [] rest
  in_prefix : {d : ℕ} {q : ConditionPrefix} {xs : List Operand} {opened : List Opened} {rest : List ConditionToken} → Held all (suc d) xs opened (t.Prefix q ∷ rest) → Held all d xs (o.Prefix q ∷ opened) rest
  in_group : {d : ℕ} {xs outer : List Operand} {opened : List Opened} {mid rest : List ConditionToken} → Held all (suc d) outer opened (t.Open ∷ mid) → SpellsPhrase d (front xs) mid rest
      → Held all d xs (o.Parenthesis outer ∷ opened) rest

record Operated (all : List ConditionToken) (x : ℕ) (xs : List Operand) (opened : List Opened) (rest : List ConditionToken) : Type 0 where
  d : ℕ
  mid : List ConditionToken
  held : Held all d xs opened mid
  inner : SpellsPhrase d (part x) mid rest
  alone : has_prefix opened ≡ false

record Closing (all : List ConditionToken) (x : ℕ) (xs : List Operand) (opened : List Opened) (rest : List ConditionToken) : Type 0 where
  d : ℕ
  mid : List ConditionToken
  held : Held all d xs opened mid
  inner : (more : List ConditionToken) → rest ≡ t.Close ∷ more → SpellsPhrase d (part x) mid more

-- what was read of all tokens
abbrev Behind : List ConditionToken → Phase → List Operand → List Opened → List ConditionToken → Type 0
Behind all p.Operand xs opened rest = (d : ℕ) × Held all d xs opened rest
Behind all (p.Operator x) xs opened rest = Operated all x xs opened rest
Behind all p.Defined xs opened rest = (d : ℕ) × (c : Bool) × Held all d xs opened (t.Defined c ∷ rest)
Behind all p.DefinedParenthesis xs opened rest = (d : ℕ) × (c : Bool) × Held all (suc d) xs opened (t.Defined c ∷ t.Open ∷ rest)
Behind all (p.DefinedName x) xs opened rest = Closing all x xs opened rest

abbrev Keeps : List ConditionToken → Option ConditionReader → List ConditionToken → Type 0
Keeps all None rest = Unit {0}
Keeps all (Some r) rest = Behind all r.phase r.row r.opened rest

held_depth : {all : List ConditionToken} {d : ℕ} {xs : List Operand} {opened : List Opened} {rest : List ConditionToken} → Held all d xs opened rest → length opened + d ≡ limit
held_depth (at_top s) = refl
held_depth (in_prefix {d = d} {opened = opened} held) = let deep : length opened + suc d ≡ limit = held_depth held in omega arith
held_depth (in_group {d = d} {opened = opened} held s) = let deep : length opened + suc d ≡ limit = held_depth held in omega arith

-- an operand is whole
whole_keeps : {all : List ConditionToken} {d : ℕ} {xs : List Operand} {opened : List Opened} {mid rest : List ConditionToken} (x : ℕ) → Held all d xs opened mid → SpellsPhrase d (part x) mid rest
    → Behind all (whole xs opened x).phase (whole xs opened x).row (whole xs opened x).opened rest
whole_keeps {mid = mid} x (at_top s) inner = record { d = limit; mid = mid; held = at_top s; inner = inner; alone = refl }
whole_keeps x (in_prefix {q = q} held) inner = whole_keeps (apply_prefix q x) held (g.a_prefix inner)
whole_keeps {d = d} {mid = mid} x (in_group held s) inner = record { d = d; mid = mid; held = in_group held s; inner = inner; alone = refl }

-- one more may be open
less_left : {all : List ConditionToken} (d : ℕ) (xs : List Operand) (opened : List Opened) (rest : List ConditionToken) → Held all d xs opened rest → length opened < limit → (e : ℕ) × Held all (suc e) xs opened rest
less_left zero xs opened rest held h = let deep : length opened + 0 ≡ limit = held_depth held in absurd (omega arith)
less_left (suc d) xs opened rest held h = (d, held)

open_keeps : {all : List ConditionToken} (b : Bool) (xs : List Operand) (opened : List Opened) (new : Opened) (rest : List ConditionToken) → nat_lt (length opened) limit ≡ b
    → (length opened < limit → (d : ℕ) × Held all d xs (new ∷ opened) rest) → Keeps all (if b then Some (reader p.Operand xs (new ∷ opened)) else None) rest
open_keeps true xs opened new rest e h = h (ltb-true (length opened) limit e)
open_keeps false xs opened new rest e h = tt

open_name_keeps : {all : List ConditionToken} (b : Bool) (c : Bool) (d : ℕ) (xs : List Operand) (opened : List Opened) (rest : List ConditionToken) → nat_lt (length opened) limit ≡ b → Held all d xs opened (t.Defined c ∷ t.Open ∷ rest)
    → Keeps all (if b then Some (reader p.DefinedParenthesis xs opened) else None) rest
open_name_keeps true c d xs opened rest e held = let less = less_left d xs opened (t.Defined c ∷ t.Open ∷ rest) held (ltb-true (length opened) limit e) in (less.0, c, less.1)
open_name_keeps false c d xs opened rest e held = tt

prefix_keeps : {all : List ConditionToken} (d : ℕ) (q : ConditionPrefix) (xs : List Operand) (opened : List Opened) (rest : List ConditionToken) → Held all d xs opened (t.Prefix q ∷ rest) → length opened < limit → (e : ℕ) × Held all e xs (o.Prefix q ∷ opened) rest
prefix_keeps d q xs opened rest held h = let less = less_left d xs opened (t.Prefix q ∷ rest) held h in (less.0, in_prefix less.1)

group_keeps : {all : List ConditionToken} (d : ℕ) (xs : List Operand) (opened : List Opened) (rest : List ConditionToken) → Held all d xs opened (t.Open ∷ rest) → length opened < limit → (e : ℕ) × Held all e [] (o.Parenthesis xs ∷ opened) rest
group_keeps d xs opened rest held h = let less = less_left d xs opened (t.Open ∷ rest) held h in (less.0, in_group less.1 g.no_operand)

-- an operator stands behind an operand
infix_keeps : {all : List ConditionToken} {d : ℕ} {xs : List Operand} {opened : List Opened} {mid rest : List ConditionToken} (x : ℕ) (q : ConditionInfix) → Held all d xs opened mid → SpellsPhrase d (part x) mid (t.Infix q ∷ rest) → has_prefix opened ≡ false
    → Held all d (xs ++ operand x q ∷ []) opened rest
infix_keeps x q (at_top s) inner alone = at_top (g.one_more s inner)
infix_keeps x q (in_prefix held) inner alone = absurd cc
infix_keeps x q (in_group held s) inner alone = in_group held (g.one_more s inner)

-- parentheses close
closed_by : {all : List ConditionToken} {d : ℕ} {outer xs : List Operand} {opened : List Opened} {mid rest : List ConditionToken} (last : ℕ) (value : Option ℕ) → row_value xs last ≡ value → Held all (suc d) outer opened (t.Open ∷ mid)
    → SpellsPhrase d (row xs last) mid (t.Close ∷ rest) → Keeps all (option_map (λ v. whole outer opened v) value) rest
closed_by last None e held inner = tt
closed_by {xs = xs} last (Some v) e held inner = whole_keeps v held (g.a_group inner (value_is_worth xs last v e))

close_keeps : {all : List ConditionToken} {d : ℕ} {xs : List Operand} {opened : List Opened} {mid rest : List ConditionToken} (x : ℕ) → Held all d xs opened mid → SpellsPhrase d (part x) mid (t.Close ∷ rest) → Keeps all (closed opened (row_value xs x)) rest
close_keeps x (at_top s) inner = tt
close_keeps x (in_prefix held) inner = tt
close_keeps {xs = xs} x (in_group held s) inner = closed_by x (row_value xs x) refl held (g.a_row s inner)

step_keeps : (all : List ConditionToken) (phase : Phase) (xs : List Operand) (opened : List Opened) (token : ConditionToken) (rest : List ConditionToken) → Behind all phase xs opened (token ∷ rest) → Keeps all (step_by phase xs opened token) rest
step_keeps all p.Operand xs opened (t.Number n) rest h = whole_keeps n h.1 g.a_number
step_keeps all p.Operand xs opened (t.Name b) rest h = whole_keeps 0 h.1 g.a_name
step_keeps all p.Operand xs opened (t.Defined c) rest h = (h.0, c, h.1)
step_keeps all p.Operand xs opened t.Open rest h = open_keeps (nat_lt (length opened) limit) [] opened (o.Parenthesis xs) rest refl (group_keeps h.0 xs opened rest h.1)
step_keeps all p.Operand xs opened t.Close rest h = tt
step_keeps all p.Operand xs opened (t.Prefix q) rest h = open_keeps (nat_lt (length opened) limit) xs opened (o.Prefix q) rest refl (prefix_keeps h.0 q xs opened rest h.1)
step_keeps all p.Operand xs opened (t.Infix q) rest h = tt
step_keeps all (p.Operator x) xs opened (t.Infix q) rest h = (h.d, infix_keeps x q h.held h.inner h.alone)
step_keeps all (p.Operator x) xs opened t.Close rest h = close_keeps x h.held h.inner
step_keeps all (p.Operator x) xs opened (t.Number n) rest h = tt
step_keeps all (p.Operator x) xs opened (t.Name b) rest h = tt
step_keeps all (p.Operator x) xs opened (t.Defined c) rest h = tt
step_keeps all (p.Operator x) xs opened t.Open rest h = tt
step_keeps all (p.Operator x) xs opened (t.Prefix q) rest h = tt
step_keeps all p.Defined xs opened (t.Name b) rest h = whole_keeps (truth b) h.2 g.a_defined
step_keeps all p.Defined xs opened (t.Defined b) rest h = whole_keeps (truth b) h.2 g.a_defined_word
step_keeps all p.Defined xs opened t.Open rest h = open_name_keeps (nat_lt (length opened) limit) h.1 h.0 xs opened rest refl h.2
step_keeps all p.Defined xs opened (t.Number n) rest h = tt
step_keeps all p.Defined xs opened t.Close rest h = tt
step_keeps all p.Defined xs opened (t.Prefix q) rest h = tt
step_keeps all p.Defined xs opened (t.Infix q) rest h = tt
step_keeps all p.DefinedParenthesis xs opened (t.Name b) rest h =
    record { d = suc h.0; mid = t.Defined h.1 ∷ t.Open ∷ t.Name b ∷ rest; held = h.2; inner = λ more e. subst (λ r. SpellsPhrase (suc h.0) (part (truth b)) (t.Defined h.1 ∷ t.Open ∷ t.Name b ∷ r) more) (sym e) g.in_parentheses }
step_keeps all p.DefinedParenthesis xs opened (t.Defined b) rest h =
    record { d = suc h.0; mid = t.Defined h.1 ∷ t.Open ∷ t.Defined b ∷ rest; held = h.2; inner = λ more e. subst (λ r. SpellsPhrase (suc h.0) (part (truth b)) (t.Defined h.1 ∷ t.Open ∷ t.Defined b ∷ r) more) (sym e) g.word_in_parentheses }
step_keeps all p.DefinedParenthesis xs opened _ rest h = tt
step_keeps all (p.DefinedName x) xs opened t.Close rest h = whole_keeps x h.held (h.inner rest refl)
step_keeps all (p.DefinedName x) xs opened _ rest h = tt

-- at the end
finish_value : {all : List ConditionToken} (x v : ℕ) (xs : List Operand) {d : ℕ} {mid : List ConditionToken} → Held all d xs [] mid → SpellsPhrase d (part x) mid [] → row_value xs x ≡ Some v → IsValue all v
finish_value x v xs (at_top s) inner e = record { operands = xs; last = x; spells = g.a_row s inner; worth = value_is_worth xs x v e }

finish_keeps : {all : List ConditionToken} (phase : Phase) (xs : List Operand) (opened : List Opened) (v : ℕ) → Behind all phase xs opened [] → finish_by phase xs opened ≡ Some v → IsValue all v
finish_keeps (p.Operator x) xs [] v h e = finish_value x v xs h.held h.inner e
finish_keeps (p.Operator x) xs (top ∷ opened) v h e = absurd cc
finish_keeps p.Operand xs opened v h e = absurd cc
finish_keeps p.Defined xs opened v h e = absurd cc
finish_keeps p.DefinedParenthesis xs opened v h e = absurd cc
finish_keeps (p.DefinedName x) xs opened v h e = absurd cc

sound_by : (all tokens : List ConditionToken) (next : Option ConditionReader) (v : ℕ) → ((r : ConditionReader) → Behind all r.phase r.row r.opened tokens → run r tokens ≡ Some v → IsValue all v) → Keeps all next tokens
    → option_and_then (λ q. run q tokens) next ≡ Some v → IsValue all v
sound_by all tokens None v others h e = absurd cc
sound_by all tokens (Some next) v others h e = others next h e

sound : (all tokens : List ConditionToken) (r : ConditionReader) (v : ℕ) → Behind all r.phase r.row r.opened tokens → run r tokens ≡ Some v → IsValue all v
unfolding run step
sound all [] r v h e = finish_keeps r.phase r.row r.opened v h e
sound all (token ∷ tokens) r v h e =
    sound_by all tokens (step_by r.phase r.row r.opened token) v (λ q k f. sound all tokens q v k f) (step_keeps all r.phase r.row r.opened token tokens h) e

pub read_is_value : (tokens : List ConditionToken) (value : ℕ) → value_of tokens ≡ Some value → IsValue tokens value
read_is_value tokens value e = sound tokens tokens (reader p.Operand [] []) value (limit, at_top g.no_operand) e
