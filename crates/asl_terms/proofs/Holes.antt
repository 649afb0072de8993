-- How many arguments a format asks for.
use Rattle.std.proofs.Common.{◌≡◌, ℕ, suc, ◌+◌, ◌≤◌, ◌<◌, Bool, true, false, List, [], ◌∷◌, length, get_or, Option, Some, None, refl, sym, ap, ◌∙◌, arith}
use Rattle.std.specs.Prelude.{nat_eq, ◌&&◌, if◌then◌else◌}
use Rattle.iasl_messages.specs.declared.place.Place.{Place}
use Rattle.acpi_state.specs.Outcomes.{choose}
use Rattle.asl_tree.specs.declared.term.Node.{Node}
use Rattle.asl_tree.specs.Formats.{is_hole, is_percent, Cut, with_byte, with_hole, cut}
use Rattle.term_plans.specs.Plans.{plan_of, plans_of, plan_at, omitted, how_many}
use Rattle.term_plans.specs.Places.{fault_at}
use Rattle.asl_terms.specs.Terms.{holes_in, counted, count_faults}
use Rattle.term_plans.proofs.Lists.{at_some, at_none}
use Rattle.asl_terms.proofs.Terms.{plan_count, nothing_more}

-- how often `%o` stands in a format
abbrev pub count_in : List ℕ → ℕ
count_in format = length (cut format).1

never : {A : Type 0} → false ≡ true → A
never e = absurd cc

-- a byte that is no `%`
pub plain_holes : (c : ℕ) (format : List ℕ) → nat_eq c 0x25 ≡ false → count_in (c ∷ format) ≡ count_in format
plain_holes c [] e = refl
plain_holes c (d ∷ format) e = by (nat_eq c 0x25) e
  where
    by : (b : Bool) → b ≡ false → length (if b && nat_eq d 0x6F then with_hole (cut format) else if b && nat_eq d 0x25 then with_byte 0x25 (cut format) else with_byte c (cut (d ∷ format))).1 ≡ count_in (d ∷ format)
    by false e = refl
    by true e = never (sym e)

-- `%o`
pub one_hole : (format : List ℕ) → count_in (0x25 ∷ 0x6F ∷ format) ≡ suc (count_in format)
one_hole format = refl

-- `%%`
pub one_percent : (format : List ℕ) → count_in (0x25 ∷ 0x25 ∷ format) ≡ count_in format
one_percent format = refl

-- any other byte behind a `%`, or none
pub lone_percent : (d : ℕ) (format : List ℕ) → nat_eq d 0x6F ≡ false → nat_eq d 0x25 ≡ false → count_in (0x25 ∷ d ∷ format) ≡ count_in (d ∷ format)
lone_percent d format e f = by (nat_eq d 0x6F) (nat_eq d 0x25) e f
  where
    by : (b p : Bool) → b ≡ false → p ≡ false → length (if b then with_hole (cut format) else if p then with_byte 0x25 (cut format) else with_byte 0x25 (cut (d ∷ format))).1 ≡ count_in (d ∷ format)
    by false false e f = refl
    by true p e f = never (sym e)
    by false true e f = never (sym f)

pub last_percent : count_in (0x25 ∷ []) ≡ 0
last_percent = refl

pub ruleset hole_rules = (plain_holes, one_hole, one_percent, lone_percent, last_percent)

pub holes_some : (nodes : List Node) (i : ℕ) (d : Node) → i < length nodes → d ≡ get_or nodes i d → holes_in (plan_of d.term) ≡ holes_in (plan_at (plans_of nodes) i)
holes_some nodes i d lt e = ap (λ (n : Node). holes_in (plan_of n.term)) e ∙ ap holes_in (sym (at_some nodes i d lt))

pub holes_none : (nodes : List Node) (i : ℕ) → length nodes ≤ i → holes_in (plan_at (plans_of nodes) i) ≡ None
holes_none nodes i le = ap holes_in (at_none nodes i le)

pub ruleset at_rules = (holes_some, holes_none)

-- no format, or one with an error
pub not_asked : (place : Place) (i : ℕ) (nodes : List Node) → holes_in (plan_at (plans_of nodes) i) ≡ None → count_faults place i (plans_of nodes) ≡ []
not_asked place i nodes e = ap (λ o. choose o [] (λ holes. counted place (nat_eq (how_many (plans_of nodes)) (suc i + holes)))) e

asked : (place : Place) (i : ℕ) (nodes : List Node) (holes : ℕ) (b : Bool) → holes_in (plan_at (plans_of nodes) i) ≡ Some holes → nat_eq (length nodes) (suc i + holes) ≡ b
    → count_faults place i (plans_of nodes) ≡ counted place b
asked place i nodes holes b e f =
    ap (λ o. choose o [] (λ holes. counted place (nat_eq (how_many (plans_of nodes)) (suc i + holes)))) e
    ∙ ap (λ n. counted place (nat_eq n (suc i + holes))) (plan_count nodes) ∙ ap (counted place) f

pub all_there : (place : Place) (i : ℕ) (nodes : List Node) (holes : ℕ) → holes_in (plan_at (plans_of nodes) i) ≡ Some holes → nat_eq (length nodes) (suc i + holes) ≡ true → count_faults place i (plans_of nodes) ≡ []
all_there place i nodes holes e f = asked place i nodes holes true e f

pub not_there : (place : Place) (i : ℕ) (nodes : List Node) (holes : ℕ) → holes_in (plan_at (plans_of nodes) i) ≡ Some holes → nat_eq (length nodes) (suc i + holes) ≡ false
    → count_faults place i (plans_of nodes) ≡ fault_at 6030 place ∷ []
not_there place i nodes holes e f = asked place i nodes holes false e f

pub ruleset count_rules = (not_asked, all_there, not_there, nothing_more)
