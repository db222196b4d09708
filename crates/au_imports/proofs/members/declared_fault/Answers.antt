use Rattle.std.proofs.Common.{◌≡◌, ℕ, List, [], Vec, refl, sym, ap, ◌∙◌, subst}
use Rattle.std.specs.Prelude.{IfOk}
use Rattle.std.specs.Global.{Global}
use Rattle.au_base.specs.declared.places.Pos.{Pos}
use Rattle.au_syntax.specs.declared.declarations.Decl.{Decl}
use Rattle.au_syntax.specs.declared.declarations.Decl.TheVariants as code
use Rattle.au_syntax.specs.declared.declarations.Signature.{Signature}
use Rattle.au_syntax.specs.declared.declarations.TypeParameter.{TypeParameter}
use Rattle.au_syntax.specs.declared.declarations.UnionCase.{UnionCase}
use Rattle.au_syntax.specs.declared.declarations.Universe.{Universe}
use Rattle.au_syntax.specs.declared.names.Ident.{Ident}
use Rattle.au_syntax.specs.declared.parsed.Parsed.{Parsed}
use Rattle.au_syntax.specs.Views.{declaration}
use Rattle.au_types.specs.DeclaredNames.{given}
use Rattle.au_names.specs.Importing.{members}
use Rattle.au_names.specs.Owned.{targets}
use Rattle.au_imports.specs.Choices.{first_of}
use Rattle.au_imports.specs.Importers.{fault_in}
use Rattle.au_imports.specs.Written.{declared_of}
use Rattle.au_imports.proofs.DeclaringLemmas.{first_none}
use Rattle.au_imports.proofs.members.declared_fault.Goals as goal

-- what is no union and no class has no cases and no methods
no_members : (d : Decl Parsed (List ℕ) (Unit {0}) (Unit {0}))
    → ((at : Pos) (n : Ident Parsed (List ℕ) (Unit {0}) (Unit {0}))
    (ps : Vec (TypeParameter Parsed (List ℕ) (Unit {0}) (Unit {0})) Global) (u : Universe)
    (cs : Vec (UnionCase Parsed (List ℕ) (Unit {0}) (Unit {0})) Global) → d ≡ code.Union at n ps u cs → ⊥)
    → ((at : Pos) (n : Ident Parsed (List ℕ) (Unit {0}) (Unit {0}))
    (p : TypeParameter Parsed (List ℕ) (Unit {0}) (Unit {0}))
    (ms : Vec (Signature Parsed (List ℕ) (Unit {0}) (Unit {0})) Global) → d ≡ code.Class at n p ms → ⊥)
    → members (declared_of d) ≡ []
unfolding declaration
no_members (code.Union at n ps u cs) v c = absurd (v at n ps u cs refl)
no_members (code.Class at n p ms) v c = absurd (c at n p ms refl)
no_members d v c = refl

pub returns-in-Union : goal.returns-in-Union
unfolding declaration
returns-in-Union c = λ m other this.
    let f = fault_in c.args.importer.now m c.args.at.«module» other c.args.stands in
    subst (λ d. IfOk c.cases_fault.result (λ found. found
    ≡ first_of f (targets c.args.at.«module» (given c.args.at.decl (members (declared_of d))))))
    (sym c.in-Union.is) (c.cases_fault.ensures m other this)

pub returns-in-Class : goal.returns-in-Class
unfolding declaration
returns-in-Class c = λ m other this.
    let f = fault_in c.args.importer.now m c.args.at.«module» other c.args.stands in
    subst (λ d. IfOk c.methods_fault.result (λ found. found
    ≡ first_of f (targets c.args.at.«module» (given c.args.at.decl (members (declared_of d))))))
    (sym c.in-Class.is) (c.methods_fault.ensures m other this)

pub returns-in_default : goal.returns-in_default
returns-in_default c = λ m other this.
    let f = fault_in c.args.importer.now m c.args.at.«module» other c.args.stands in
    let none = no_members c.args.decl.now c.in_default.not-Union c.in_default.not-Class in
    sym (ap (λ names. first_of f (targets c.args.at.«module» (given c.args.at.decl names))) none
    ∙ first_none f)
