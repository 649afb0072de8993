-- Forms that are their opcode, their arguments and their body, one behind another.
use Rattle.std.proofs.Common.{◌≡◌, ℕ, true, List, ◌++◌, refl}
use Rattle.std.proofs.lemmas.Bool.{false≢true}
use Rattle.asl_tree.specs.declared.term.Op.{Op}
use Rattle.asl_tree.specs.declared.term.Declaration.TheVariants as Declaration
use Rattle.asl_tree.specs.declared.term.Control.TheVariants as Control
use Rattle.asl_tree.specs.declared.term.Special.TheVariants as Special
use Rattle.aml_sizes.specs.declared.style.IntegerStyle.{IntegerStyle}
use Rattle.aml_sizes.specs.Leaves.{Leaf}
use Rattle.aml_sizes.specs.Codes.{code_of}
use Rattle.aml_sizes.specs.TermBytes.{whole_form}
use Rattle.aml_sizes.specs.PackageLengths.{body_lengths, front_lengths}
use Rattle.aml_sizes.specs.Forms.{is_plain}

-- what a plain form says of its bytes and of its packages
pub record Plainly (style : IntegerStyle) (op : Op) : Type 0 where
  pub bytes : (args : List Leaf) (front : List ℕ) (body : List Leaf) (content items : List ℕ) → (code_of op ++ front) ++ content ≡ whole_form style op args front body content items
  pub lengths : (args : List Leaf) (front own : List ℕ) (nodes size : ℕ) (content items : List ℕ) → own ++ content ≡ front_lengths style op args front own nodes size ++ body_lengths op content items

pub plainly : (style : IntegerStyle) (op : Op) → is_plain op ≡ true → Plainly style op
plainly style (Op.Special Special.Buffer) e = absurd (false≢true e)
plainly style (Op.Special Special.Package) e = absurd (false≢true e)
plainly style (Op.Declaration Declaration.External) e = absurd (false≢true e)
plainly style (Op.Declaration Declaration.Method) e = absurd (false≢true e)
plainly style (Op.Declaration Declaration.Device) e = absurd (false≢true e)
plainly style (Op.Declaration Declaration.ThermalZone) e = absurd (false≢true e)
plainly style (Op.Declaration Declaration.PowerResource) e = absurd (false≢true e)
plainly style (Op.Declaration Declaration.Processor) e = absurd (false≢true e)
plainly style (Op.Declaration Declaration.Scope) e = absurd (false≢true e)
plainly style (Op.Declaration Declaration.Field) e = absurd (false≢true e)
plainly style (Op.Declaration Declaration.IndexField) e = absurd (false≢true e)
plainly style (Op.Declaration Declaration.BankField) e = absurd (false≢true e)
plainly style (Op.Control Control.If) e = absurd (false≢true e)
plainly style (Op.Control Control.ElseIf) e = absurd (false≢true e)
plainly style (Op.Control Control.Else) e = absurd (false≢true e)
plainly style (Op.Control Control.While) e = absurd (false≢true e)
plainly style op e = record {
  bytes = λ args front body content items. refl;
  lengths = λ args front own nodes size content items. refl;
}
