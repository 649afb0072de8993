-- Every operator: where its settled arguments and its body fit, it is shaped, and stands for what its role says.
use Rattle.std.proofs.Common.{◌≡◌, ◌≤◌, [], ◌∷◌, length, sym, subst}
use Rattle.acpi_values.specs.declared.width.Width.TheVariants.{W64}
use Rattle.acpi_values.specs.Widths.{ones_of}
use Rattle.asl_tree.specs.declared.term.Op.{Op}
use Rattle.asl_tree.specs.declared.term.Declaration.TheVariants as Declaration
use Rattle.asl_tree.specs.declared.term.Control.TheVariants as Control
use Rattle.asl_tree.specs.declared.term.Special.TheVariants as Special
use Rattle.asl_tree.specs.declared.term.Symbolic.TheVariants as Symbolic
use Rattle.asl_tree.specs.Tree.{At, Tree, Integer, Use, Trees, no_trees, tree, count}
use Rattle.asl_tree.specs.View.{form, body_bytes, items_in}
use Rattle.named_sessions.specs.Shaped.{IsNumber, AreCaseMembers}
use Rattle.asl_words.specs.declared.operator.Slot.TheVariants as slot
use Rattle.asl_words.specs.declared.operator.Body.{Body}
use Rattle.asl_words.specs.declared.operator.Body.TheVariants as braces
use Rattle.asl_words.specs.Operators.{asked, optional, expression, place, target, used, declared, space, constant, parameters_of, body_of}
use Rattle.program_shapes.proofs.Fits.{TreesFit, IsDeclared, Formed, FormedElements, FormedTerms, FormedCases, IsCase, IsDefault}
use Rattle.program_shapes.proofs.Plains.{plain_made, symbol_made}
use Rattle.program_shapes.proofs.Words.{IsSpelled}
use Rattle.program_shapes.proofs.Forms.{one_of, two_of, three_of, four_of, none_of, condition_made, return_made, assign_made, assign_by_made, name_made, alias_made, event_made, mutex_made, bits_made, bit_made, byte_made, word_made, dword_made, qword_made, if_made, else_if_made, while_made}
use Rattle.program_shapes.proofs.Forms.{for_made, PrintedFit, PrintedIntoFit, printf_made, fprintf_made, switch_made, case_made, device_made, zone_made, scope_made, method_made, power_made, processor_made, buffer_made, package_made, region_made, field_made, index_made, bank_made, ListFit}

-- the name and type of an External, and perhaps how many parameters it states
abbrev pub ExternalFit : Trees → Type 0
ExternalFit (tree t (tree type no_trees)) = IsDeclared t × IsNumber type
ExternalFit (tree t (tree type (tree n no_trees))) = IsDeclared t × IsNumber type × IsNumber n
ExternalFit _ = ⊥

-- arguments as they stand in the tree: a method's flags are one byte, a mutex has its level, a Return its value, a For its test, and a format
-- as many arguments as it asks for
abbrev pub SettledFit : Op → Trees → Type 0
SettledFit (Op.Declaration Declaration.Method) ts = TreesFit (declared ∷ asked (constant 0 255) ∷ []) ts
SettledFit (Op.Declaration Declaration.Mutex) ts = TreesFit (declared ∷ asked (constant 0 255) ∷ []) ts
SettledFit (Op.Declaration Declaration.External) ts = ExternalFit ts
SettledFit (Op.Declaration Declaration.Field) ts = TreesFit (used ∷ asked (constant 0 255) ∷ []) ts
SettledFit (Op.Declaration Declaration.IndexField) ts = TreesFit (used ∷ used ∷ asked (constant 0 255) ∷ []) ts
SettledFit (Op.Declaration Declaration.BankField) ts = TreesFit (used ∷ used ∷ expression ∷ asked (constant 0 255) ∷ []) ts
SettledFit (Op.Control Control.Return) ts = TreesFit (expression ∷ []) ts
SettledFit (Op.Control Control.For) ts = TreesFit (optional slot.Effect ∷ expression ∷ optional slot.Effect ∷ []) ts
SettledFit (Op.Control Control.Printf) ts = PrintedFit ts
SettledFit (Op.Control Control.Fprintf) ts = PrintedIntoFit ts
SettledFit op ts = TreesFit (parameters_of op) ts

-- what stands in braces; the lists of descriptors stand in no operator's
abbrev pub BodyFit : Body → Trees → Type 0
BodyFit braces.No body = body ≡ no_trees
BodyFit braces.Terms body = FormedTerms body
BodyFit braces.Bytes body = length (body_bytes body) ≤ ones_of W64
BodyFit braces.FieldList body = ListFit (items_in body)
BodyFit braces.Elements body = FormedElements body × (count body ≤ ones_of W64)
BodyFit (braces.Numbers most) body = Unit {0}
BodyFit (braces.Descriptors chosen) body = Unit {0}
BodyFit braces.Cases body = FormedCases body
BodyFit braces.CaseMembers body = AreCaseMembers body

-- what the tree of an operator is: a Case and a Default stand in a Switch alone
abbrev pub Made : Op → Tree → Type 0
Made (Op.Control Control.Case) t = IsCase t
Made (Op.Control Control.Default) t = IsDefault t
Made op t = Formed t

external_made : (here : At) (ts : Trees) → ExternalFit ts → Formed (form here (Op.Declaration Declaration.External) ts no_trees)
external_made here (tree (Use at name) (tree (Integer type) no_trees)) h = h.0
external_made here (tree (Use at name) (tree (Integer type) (tree (Integer n) no_trees))) h = h.0
external_made here (tree (Use at name) (tree (Integer type) (tree (Integer n) (tree u us)))) h = absurd h
external_made here (tree (Use at name) (tree (Integer type) (tree _ no_trees))) h = absurd h.2
external_made here (tree (Use at name) (tree (Integer type) (tree _ (tree u us)))) h = absurd h
external_made here (tree (Use at name) (tree _ no_trees)) h = absurd h.1
external_made here (tree (Use at name) (tree _ (tree u no_trees))) h = absurd h.1
external_made here (tree (Use at name) (tree _ (tree u (tree v vs)))) h = absurd h
external_made here (tree (Use at name) no_trees) h = absurd h
external_made here (tree _ (tree type no_trees)) h = absurd h.0
external_made here (tree _ (tree type (tree n no_trees))) h = absurd h.0
external_made here (tree _ (tree type (tree n (tree u us)))) h = absurd h
external_made here (tree _ no_trees) h = absurd h
external_made here no_trees h = absurd h

-- nothing stands in the braces of an operator that has none
bare_body : (here : At) (op : Op) (ts body : Trees) → body ≡ no_trees → Formed (form here op ts no_trees) → Formed (form here op ts body)
bare_body here op ts body e h = subst (λ body. Formed (form here op ts body)) (sym e) h

bare_args : (here : At) (op : Op) (ts body : Trees) → ts ≡ no_trees → Formed (form here op no_trees body) → Formed (form here op ts body)
bare_args here op ts body e h = subst (λ ts. Formed (form here op ts body)) (sym e) h

pub form_made : (here : At) (op : Op) (ts body : Trees) → IsSpelled op → SettledFit op ts → BodyFit (body_of op) body → Made op (form here op ts body)
unfolding parameters_of
form_made here (Op.Plain op) ts body i h b = bare_body here (Op.Plain op) ts body b (plain_made op ts h).1
form_made here (Op.Literal l) ts body i h b = bare_body here (Op.Literal l) ts body b (bare_args here (Op.Literal l) ts no_trees (none_of ts h) tt)
form_made here (Op.Special Special.CondRefOf) ts body i h b = bare_body here (Op.Special Special.CondRefOf) ts body b (condition_made here ts (two_of place target ts h))
form_made here (Op.Special Special.Buffer) ts body i h b = buffer_made here ts body (one_of (optional slot.Expression) ts h) b
form_made here (Op.Special Special.Package) ts body i h b = package_made here ts body (one_of (optional slot.Expression) ts h) b.0 b.1
form_made here (Op.Control Control.Return) ts body i h b = bare_body here (Op.Control Control.Return) ts body b (return_made here ts (one_of expression ts h))
form_made here (Op.Control Control.If) ts body i h b = if_made here ts body (one_of expression ts h) b
form_made here (Op.Control Control.While) ts body i h b = while_made here ts body (one_of expression ts h) b
form_made here (Op.Control Control.For) ts body i h b = for_made here ts body (three_of (optional slot.Effect) expression (optional slot.Effect) ts h) b
form_made here (Op.Control Control.Printf) ts body i h b = bare_body here (Op.Control Control.Printf) ts body b (printf_made here ts h)
form_made here (Op.Control Control.Fprintf) ts body i h b = bare_body here (Op.Control Control.Fprintf) ts body b (fprintf_made here ts h)
form_made here (Op.Control Control.Switch) ts body i h b = switch_made here ts body (one_of expression ts h) b
form_made here (Op.Control Control.Case) ts body i h b = case_made here ts body (one_of (asked slot.CaseValue) ts h) b
form_made here (Op.Control Control.Default) ts body i h b = subst (λ ts. IsDefault (form here (Op.Control Control.Default) ts body)) (sym (none_of ts h)) b
form_made here (Op.Control Control.ElseIf) ts body i h b = else_if_made here ts body (one_of expression ts h) b
form_made here (Op.Symbolic (Symbolic.Operator op)) ts body i h b = bare_body here (Op.Symbolic (Symbolic.Operator op)) ts body b (symbol_made op ts h).1
form_made here (Op.Symbolic Symbolic.Assign) ts body i h b = bare_body here (Op.Symbolic Symbolic.Assign) ts body b (assign_made here ts (two_of place expression ts h))
form_made here (Op.Symbolic (Symbolic.AssignBy op)) ts body i h b = bare_body here (Op.Symbolic (Symbolic.AssignBy op)) ts body b (assign_by_made here op ts (two_of place expression ts h))
form_made here (Op.Control Control.Else) ts body i h b = bare_args here (Op.Control Control.Else) ts body (none_of ts h) b
form_made here (Op.Control Control.Break) ts body i h b = bare_body here (Op.Control Control.Break) ts body b (bare_args here (Op.Control Control.Break) ts no_trees (none_of ts h) tt)
form_made here (Op.Control Control.Continue) ts body i h b = bare_body here (Op.Control Control.Continue) ts body b (bare_args here (Op.Control Control.Continue) ts no_trees (none_of ts h) tt)
form_made here (Op.Declaration Declaration.Name) ts body i h b = bare_body here (Op.Declaration Declaration.Name) ts body b (name_made here ts (two_of declared expression ts h))
form_made here (Op.Declaration Declaration.Alias) ts body i h b = bare_body here (Op.Declaration Declaration.Alias) ts body b (alias_made here ts (two_of used declared ts h))
form_made here (Op.Declaration Declaration.External) ts body i h b = bare_body here (Op.Declaration Declaration.External) ts body b (external_made here ts h)
form_made here (Op.Declaration Declaration.Event) ts body i h b = bare_body here (Op.Declaration Declaration.Event) ts body b (event_made here ts (one_of declared ts h))
form_made here (Op.Declaration Declaration.Mutex) ts body i h b = bare_body here (Op.Declaration Declaration.Mutex) ts body b (mutex_made here ts (two_of declared (asked (constant 0 255)) ts h))
form_made here (Op.Declaration Declaration.CreateField) ts body i h b = bare_body here (Op.Declaration Declaration.CreateField) ts body b (bits_made here ts (four_of expression expression expression declared ts h))
form_made here (Op.Declaration Declaration.CreateBitField) ts body i h b = bare_body here (Op.Declaration Declaration.CreateBitField) ts body b (bit_made here ts (three_of expression expression declared ts h))
form_made here (Op.Declaration Declaration.CreateByteField) ts body i h b = bare_body here (Op.Declaration Declaration.CreateByteField) ts body b (byte_made here ts (three_of expression expression declared ts h))
form_made here (Op.Declaration Declaration.CreateWordField) ts body i h b = bare_body here (Op.Declaration Declaration.CreateWordField) ts body b (word_made here ts (three_of expression expression declared ts h))
form_made here (Op.Declaration Declaration.CreateDWordField) ts body i h b = bare_body here (Op.Declaration Declaration.CreateDWordField) ts body b (dword_made here ts (three_of expression expression declared ts h))
form_made here (Op.Declaration Declaration.CreateQWordField) ts body i h b = bare_body here (Op.Declaration Declaration.CreateQWordField) ts body b (qword_made here ts (three_of expression expression declared ts h))
form_made here (Op.Declaration Declaration.Device) ts body i h b = device_made here ts body (one_of declared ts h) b
form_made here (Op.Declaration Declaration.ThermalZone) ts body i h b = zone_made here ts body (one_of declared ts h) b
form_made here (Op.Declaration Declaration.Scope) ts body i h b = scope_made here ts body (one_of used ts h) b
form_made here (Op.Declaration Declaration.Method) ts body i h b = method_made here ts body (two_of declared (asked (constant 0 255)) ts h) b
form_made here (Op.Declaration Declaration.PowerResource) ts body i h b = power_made here ts body (three_of declared (asked (constant 0 255)) (asked (constant 0 65535)) ts h) b
form_made here (Op.Declaration Declaration.Processor) ts body i h b =
    processor_made here ts body (four_of declared (asked (constant 0 255)) (asked (constant 0 4294967295)) (asked (constant 0 255)) ts h) b
form_made here (Op.Declaration Declaration.OperationRegion) ts body i h b =
    bare_body here (Op.Declaration Declaration.OperationRegion) ts body b (region_made here ts (four_of declared space expression expression ts h))
form_made here (Op.Declaration Declaration.Field) ts body i h b = field_made here ts body (two_of used (asked (constant 0 255)) ts h) b
form_made here (Op.Declaration Declaration.IndexField) ts body i h b = index_made here ts body (three_of used used (asked (constant 0 255)) ts h) b
form_made here (Op.Declaration Declaration.BankField) ts body i h b = bank_made here ts body (four_of used used expression (asked (constant 0 255)) ts h) b
