-- What is due of a template.
use Rattle.std.proofs.Common.{◌≡◌, ℕ, true, List, [], ◌∷◌, Option, Some, refl, ap, ◌∙◌}
use Rattle.std.specs.Prelude.{is_some}
use Rattle.iasl_ports.specs.Delivery.{Answer}
use Rattle.iasl_messages.specs.declared.place.Piece.{Piece}
use Rattle.iasl_backends.specs.Lines.{piece_lines}
use Rattle.data_layout.specs.declared.table.Table.{Table}
use Rattle.data_layout.specs.declared.table.Table.TheVariants as t
use Rattle.data_layout.specs.Layout.{table_of}
use Rattle.data_generic.specs.Templates.{signature_of, default_pieces, default_of}
use Rattle.iasl_tool.specs.Due.{template_name, answer_to_template}

-- each table has its signature
table_is : (table : Table) → table_of (signature_of table) ≡ Some table
table_is t.Facp = refl
table_is t.Apic = refl
table_is t.Mcfg = refl
table_is t.Hpet = refl
table_is t.Srat = refl
table_is t.Slit = refl
table_is t.Waet = refl
table_is t.Bert = refl
table_is t.Bgrt = refl
table_is t.Spcr = refl
table_is t.Tpm2 = refl
table_is t.Erst = refl
table_is t.Einj = refl
table_is t.Pcct = refl
table_is t.Tcpa = refl
table_is t.Gtdt = refl
table_is t.Hest = refl
table_is t.Viot = refl
table_is t.Nfit = refl

pub is_known : (table : Table) (signature : List ℕ) → signature ≡ signature_of table → is_some (table_of signature) ≡ true
is_known table signature e = ap (λ (o : Option Table). is_some o) (ap table_of e ∙ table_is table)

pub pieces_are : (table : Table) (signature : List ℕ) (pieces : List Piece) → signature ≡ signature_of table → Some pieces ≡ default_of (table_of signature) → pieces ≡ default_pieces table
pieces_are table signature pieces e f =
    let all : ◌≡◌ {A = Option (List Piece)} (Some pieces) (Some (default_pieces table)) = f ∙ ap (λ (s : List ℕ). default_of (table_of s)) e ∙ ap default_of (table_is table) in
    cc

pub due_is : (table : Table) (signature text name : List ℕ) (pieces : List Piece) → signature ≡ signature_of table → text ≡ (answer_to_template table).text → name ≡ template_name table → Some pieces ≡ default_of (table_of signature)
    → ◌≡◌ {A = Answer} (record { status = 0; text = text; due = (name, piece_lines pieces) ∷ [] }) (answer_to_template table)
due_is table signature text name pieces s t n p =
    let all : pieces ≡ default_pieces table = pieces_are table signature pieces s p in
    λ i. record { status = 0; text = t i; due = (n i, piece_lines (all i)) ∷ [] }
