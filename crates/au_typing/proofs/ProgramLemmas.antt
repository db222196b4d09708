-- Whatever notes of a program are good are found, whatever is found is good, and there are no two of them.
use Rattle.std.proofs.Common.{◌≡◌, ℕ, ◌+◌, Bool, true, false, List, [], ◌∷◌, map, refl, sym, ap, subst, ◌∙◌}
use Rattle.std.specs.Prelude.{Option, Some, None, Ok, Err}
use Rattle.std.specs.Option.{option_map}
use Rattle.au_base.specs.declared.places.Pos.{Pos}
use Rattle.au_syntax.specs.declared.modules.Part.{Part}
use Rattle.au_syntax.specs.declared.modules.Part.TheVariants.{Interface, Body}
use Rattle.au_syntax.specs.Expressions.{number}
use Rattle.au_syntax.specs.Modules.{Constrained, Header, constant, opaque_type, record_type, union_type}
use Rattle.au_syntax.specs.Modules.{function, class, instance, constant_body, function_body, instance_body}
use Rattle.au_syntax.specs.Plain.{Bytes, PlainDeclaration, PlainExpression, PlainMethod, PlainStatements}
use Rattle.au_syntax.specs.Types.{WrittenType}
use Rattle.au_modules.specs.Programs.{Entry, ModuleParts}
use Rattle.au_typing.specs.Scopes.{Outside, Scope}
use Rattle.au_typing.specs.Faults.{check, shape, assignable_wanted}
use Rattle.au_typing.specs.Lookups.{written_type}
use Rattle.au_typing.specs.Notes.{NotedExpression, erase}
use Rattle.au_typing.specs.Search.{note}
use Rattle.au_typing.proofs.Steps.{bind_ok, check_ok, ok_same}
use Rattle.au_typing.specs.Bodies.{GoodBody, GoodConstant, GoodMethods, body_scope, outer_scope}
use Rattle.au_typing.specs.Derivations.{Derives, GoodDeclaration, GoodDeclarations, GoodModules, GoodPart}
use Rattle.au_typing.specs.DerivationFaults.{Judged, StatementFault, ◌then◌, placed}
use Rattle.au_typing.specs.Parts.{is_literal}
use Rattle.au_typing.specs.ProgramSearch.{judge_end, note_body, note_constant, note_declaration}
use Rattle.au_typing.specs.ProgramSearch.{note_declarations, note_methods, note_module, note_modules}
use Rattle.au_typing.specs.ProgramSearch.{note_part, note_program, noted_entry}
use Rattle.au_typing.specs.Returns.{block_returns}
use Rattle.au_typing.specs.DerivationSearch.{note_block}
use Rattle.au_typing.specs.Statements.{GoodBlock}
use Rattle.au_typing.specs.Trees.{NotedDeclaration, NotedEntry, NotedMethod, NotedParts, NotedStatements}
use Rattle.au_typing.specs.Trees.{erase_block, erase_declaration, erase_entry, erase_method, erase_parts}
use Rattle.au_typing.specs.Trees.{erase_program}
use Rattle.au_typing.proofs.FoundLemmas.{block_found, block_returns_erased, two_blocks}
use Rattle.au_typing.proofs.PartLemmas.{wants_found}
use Rattle.au_typing.proofs.SoundPartLemmas.{wants_sound}
use Rattle.au_typing.proofs.SoundLemmas.{block_sound}
use Rattle.au_typing.proofs.StepLemmas.{bind_from, check_from, judged_is, placed_from, placed_gave, then_from}
use Rattle.au_typing.proofs.StepLemmas.{then_gave}

-- without its notes an expression is a literal as with them
literal_erased : (e : NotedExpression) → is_literal (erase e) ≡ is_literal e
literal_erased (number n l) = refl
literal_erased e = refl

end_gave : (b : Bool) (stop : Pos) (z : Unit {0}) → judge_end b stop ≡ Ok z → b ≡ true
end_gave true stop z e = refl
end_gave false stop z e = absurd cc

-- ---- what is good is found

body_found : (outside : Outside) (at : Pos) (generics : List (Constrained Bytes)) (header : Header Bytes)
    (body : NotedStatements) (stop : Pos) → GoodBody outside generics header body
    → note_body outside at generics header (erase_block body) stop ≡ Ok body
body_found outside at generics header body stop g =
    then_from
    (λ sc. note_block (erase_block body) sc
    then λ noted. judge_end (block_returns (erase_block body)) stop then λ ends. Ok noted)
    (placed_from at g.formed)
    (then_from (λ noted. judge_end (block_returns (erase_block body)) stop then λ ends. Ok noted)
    (block_found body g.scope g.good)
    (then_from (λ ends. Ok body)
    (ap (λ b. judge_end b stop) (block_returns_erased body ∙ g.returned)) refl))

methods_found : (outside : Outside) (generics : List (Constrained Bytes)) (all : List NotedMethod)
    → GoodMethods outside generics all → note_methods outside generics (map erase_method all) ≡ Ok all
methods_found outside generics [] g = refl
methods_found outside generics (m ∷ rest) g =
    then_from
    (λ body. note_methods outside generics (map erase_method rest)
    then λ all. Ok (record { header = m.header; body = body; stop = m.stop } ∷ all))
    (body_found outside m.header.name.at generics m.header m.body m.stop g.0)
    (then_from (λ all. Ok (m ∷ all)) (methods_found outside generics rest g.1) refl)

constant_found : (outside : Outside) (t : WrittenType) (e : NotedExpression) → GoodConstant outside t e
    → note_constant outside t (erase e) ≡ Ok e
constant_found outside t e g =
    bind_from
    (λ of. check (is_literal (erase e)) (shape assignable_wanted)
    (note (outer_scope outside []) (erase e) (Some of)))
    g.formed
    (check_from (shape assignable_wanted) (note (outer_scope outside []) (erase e) (Some g.of))
    (literal_erased e ∙ g.literal)
    (wants_found (outer_scope outside []) e (Some g.of) g.wants))

declaration_found : (outside : Outside) (d : NotedDeclaration) → GoodDeclaration outside d
    → note_declaration outside (erase_declaration d) ≡ Ok d
declaration_found outside (constant_body at name t e) g =
    then_from (λ a. Ok (constant_body at name t a)) (placed_from at (constant_found outside t e g)) refl
declaration_found outside (function_body at generics header body stop) g =
    then_from (λ noted. Ok (function_body at generics header noted stop))
    (body_found outside at generics header body stop g) refl
declaration_found outside (instance_body at generics name t methods) g =
    then_from (λ noted. Ok (instance_body at generics name t noted))
    (methods_found outside generics methods g) refl
declaration_found outside d g = refl

declarations_found : (outside : Outside) (ds : List NotedDeclaration) → GoodDeclarations outside ds
    → note_declarations outside (map erase_declaration ds) ≡ Ok ds
declarations_found outside [] g = refl
declarations_found outside (d ∷ rest) g =
    then_from
    (λ noted. note_declarations outside (map erase_declaration rest) then λ all. Ok (noted ∷ all))
    (declaration_found outside d g.0)
    (then_from (λ all. Ok (d ∷ all)) (declarations_found outside rest g.1) refl)

part_found : (outside : Outside) (part : Option NotedEntry) → GoodPart outside part
    → note_part outside (option_map erase_entry part) ≡ Ok part
part_found outside None g = refl
part_found outside (Some e) g =
    then_from (λ ds. Ok (Some (noted_entry (erase_entry e) ds)))
    (declarations_found outside e.tree.declarations g) refl

modules_found : (outside : ℕ → Part → Outside) (place : ℕ) (ms : List NotedParts)
    → GoodModules outside place ms → note_modules outside place (erase_program ms) ≡ Ok ms
modules_found outside place [] g = refl
modules_found outside place (m ∷ rest) g =
    then_from
    (λ noted. note_modules outside (place + 1) (erase_program rest) then λ all. Ok (noted ∷ all)) module_found
    (then_from (λ all. Ok (m ∷ all)) (modules_found outside (place + 1) rest g.2) refl)
  where
    module_found : note_module outside place (erase_parts m) ≡ Ok m
    module_found =
        then_from
        (λ interface. note_part (outside place Body) (option_map erase_entry m.body)
        then λ body. Ok (record { name = m.name; interface = interface; body = body }))
        (part_found (outside place Interface) m.interface g.0)
        (then_from (λ body. Ok (record { name = m.name; interface = m.interface; body = body }))
        (part_found (outside place Body) m.body g.1) refl)

pub program_found : (outside : ℕ → Part → Outside) (program : List ModuleParts) (noted : List NotedParts)
    → Derives outside program noted → note_program outside program ≡ Ok noted
program_found outside program noted g =
    ap (note_program outside) (sym g.erased) ∙ modules_found outside 0 noted g.good

pub two_are_one : (outside : ℕ → Part → Outside) (program : List ModuleParts) (a b : List NotedParts)
    → Derives outside program a → Derives outside program b → a ≡ b
two_are_one outside program a b g h =
    judged_is a b (sym (program_found outside program a g) ∙ program_found outside program b h)

pub not_refused : (outside : ℕ → Part → Outside) (program : List ModuleParts) (noted : List NotedParts)
    (fault : StatementFault) → note_program outside program ≡ Err fault → Derives outside program noted → ⊥
not_refused outside program noted fault e g = no_fault (sym e ∙ program_found outside program noted g)
  where
    no_fault : ◌≡◌ {A = Judged (List NotedParts)} (Err fault) (Ok noted) → ⊥
    no_fault h = cc

pub two_bodies : (outside : Outside) (generics : List (Constrained Bytes)) (header : Header Bytes)
    (a b : NotedStatements) → GoodBody outside generics header a → GoodBody outside generics header b
    → erase_block a ≡ erase_block b → a ≡ b
two_bodies outside generics header a b g h e =
    let scope : g.scope ≡ h.scope = ok_same g.scope h.scope (sym g.formed ∙ h.formed) in
    two_blocks a b g.scope g.good (subst (GoodBlock b) (sym scope) h.good) e

-- ---- what is found is good

pub body_sound : (outside : Outside) (at : Pos) (generics : List (Constrained Bytes)) (header : Header Bytes)
    (body : PlainStatements) (stop : Pos) (t : NotedStatements)
    → note_body outside at generics header body stop ≡ Ok t
    → GoodBody outside generics header t × (erase_block t ≡ body)
body_sound outside at generics header body stop t h =
    let scope = then_gave (placed at (body_scope outside generics header))
    (λ sc. note_block body sc then λ noted. judge_end (block_returns body) stop then λ ends. Ok noted) t h in
    let block = then_gave (note_block body scope.0)
    (λ noted. judge_end (block_returns body) stop then λ ends. Ok noted) t scope.2 in
    let ends = then_gave (judge_end (block_returns body) stop) (λ z. Ok block.0) t block.2 in
    let good = block_sound body scope.0 block.0 block.1 in
    let noted : NotedStatements = block.0 in
    let returned : block_returns noted ≡ true =
    sym (block_returns_erased noted) ∙ (ap block_returns good.1
    ∙ end_gave (block_returns body) stop ends.0 ends.1) in
    let is : noted ≡ t = judged_is noted t ends.2 in
    let all : GoodBody outside generics header noted × (erase_block noted ≡ body) = (
      record {
        scope = scope.0;
        formed = placed_gave at (body_scope outside generics header) scope.0 scope.1;
        good = good.0;
        returned = returned;
      },
      good.1,
    ) in
    subst (λ b. GoodBody outside generics header b × (erase_block b ≡ body)) is all

methods_sound : (outside : Outside) (generics : List (Constrained Bytes)) (all : List PlainMethod)
    (t : List NotedMethod) → note_methods outside generics all ≡ Ok t
    → GoodMethods outside generics t × (map erase_method t ≡ all)
methods_sound outside generics [] t h =
    subst (λ ms. GoodMethods outside generics ms × (map erase_method ms ≡ [])) (judged_is [] t h) (tt, refl)
methods_sound outside generics (m ∷ rest) t h =
    let body = then_gave (note_body outside m.header.name.at generics m.header m.body m.stop)
    (λ b. note_methods outside generics rest
    then λ others. Ok (record { header = m.header; body = b; stop = m.stop } ∷ others)) t h in
    let one : NotedMethod = record { header = m.header; body = body.0; stop = m.stop } in
    let others = then_gave (note_methods outside generics rest) (λ all. Ok (one ∷ all)) t body.2 in
    let good = body_sound outside m.header.name.at generics m.header m.body m.stop body.0 body.1 in
    let goods = methods_sound outside generics rest others.0 others.1 in
    subst (λ ms. GoodMethods outside generics ms × (map erase_method ms ≡ m ∷ rest))
    (judged_is (one ∷ others.0) t others.2)
    ((good.0, goods.0), λ i. record { header = m.header; body = good.1 i; stop = m.stop } ∷ goods.1 i)

constant_sound : (outside : Outside) (t : WrittenType) (e : PlainExpression) (a : NotedExpression)
    → note_constant outside t e ≡ Ok a → GoodConstant outside t a × (erase a ≡ e)
constant_sound outside t e a h =
    let sc : Scope = outer_scope outside [] in
    let of = bind_ok (written_type sc t)
    (λ u. check (is_literal e) (shape assignable_wanted) (note sc e (Some u))) a h in
    let literal = check_ok (is_literal e) (shape assignable_wanted) (note sc e (Some of.0)) a of.2 in
    let wants = wants_sound sc e (Some of.0) a literal.1 in (
      record {
        of = of.0;
        formed = of.1;
        literal = sym (literal_erased a) ∙ (ap is_literal wants.1 ∙ literal.0);
        wants = wants.0;
      },
      wants.1,
    )

-- a noted declaration is good and without its notes this one
abbrev pub IsDeclaration : Outside → PlainDeclaration → NotedDeclaration → Type 0
IsDeclaration outside d t = GoodDeclaration outside t × (erase_declaration t ≡ d)

declaration_sound : (outside : Outside) (d : PlainDeclaration) (t : NotedDeclaration)
    → note_declaration outside d ≡ Ok t → IsDeclaration outside d t
declaration_sound outside (constant at name of) t h =
    subst (IsDeclaration outside (constant at name of)) (judged_is (constant at name of) t h) (tt, refl)
declaration_sound outside (opaque_type at name ps u) t h =
    subst (IsDeclaration outside (opaque_type at name ps u)) (judged_is (opaque_type at name ps u) t h)
    (tt, refl)
declaration_sound outside (record_type at name ps u fields) t h =
    subst (IsDeclaration outside (record_type at name ps u fields))
    (judged_is (record_type at name ps u fields) t h) (tt, refl)
declaration_sound outside (union_type at name ps u cases) t h =
    subst (IsDeclaration outside (union_type at name ps u cases))
    (judged_is (union_type at name ps u cases) t h) (tt, refl)
declaration_sound outside (function at generics header) t h =
    subst (IsDeclaration outside (function at generics header))
    (judged_is (function at generics header) t h) (tt, refl)
declaration_sound outside (class at name p headers) t h =
    subst (IsDeclaration outside (class at name p headers)) (judged_is (class at name p headers) t h)
    (tt, refl)
declaration_sound outside (instance at generics name of) t h =
    subst (IsDeclaration outside (instance at generics name of))
    (judged_is (instance at generics name of) t h) (tt, refl)
declaration_sound outside (constant_body at name of e) t h =
    let step = then_gave (placed at (note_constant outside of e)) (λ a. Ok
    (constant_body at name of a)) t h in
    let good = constant_sound outside of e step.0
    (placed_gave at (note_constant outside of e) step.0 step.1) in
    subst (IsDeclaration outside (constant_body at name of e))
    (judged_is (constant_body at name of step.0) t step.2) (good.0, ap (constant_body at name of) good.1)
declaration_sound outside (function_body at generics header body stop) t h =
    let step = then_gave (note_body outside at generics header body stop)
    (λ noted. Ok (function_body at generics header noted stop)) t h in
    let good = body_sound outside at generics header body stop step.0 step.1 in
    subst (IsDeclaration outside (function_body at generics header body stop))
    (judged_is (function_body at generics header step.0 stop) t step.2)
    (good.0, ap (λ b. function_body at generics header b stop) good.1)
declaration_sound outside (instance_body at generics name of methods) t h =
    let step = then_gave (note_methods outside generics methods)
    (λ noted. Ok (instance_body at generics name of noted)) t h in
    let good = methods_sound outside generics methods step.0 step.1 in
    subst (IsDeclaration outside (instance_body at generics name of methods))
    (judged_is (instance_body at generics name of step.0) t step.2)
    (good.0, ap (instance_body at generics name of) good.1)

declarations_sound : (outside : Outside) (ds : List PlainDeclaration) (t : List NotedDeclaration)
    → note_declarations outside ds ≡ Ok t → GoodDeclarations outside t × (map erase_declaration t ≡ ds)
declarations_sound outside [] t h =
    subst (λ all. GoodDeclarations outside all × (map erase_declaration all ≡ [])) (judged_is [] t h)
    (tt, refl)
declarations_sound outside (d ∷ rest) t h =
    let first = then_gave (note_declaration outside d)
    (λ noted. note_declarations outside rest then λ all. Ok (noted ∷ all)) t h in
    let others = then_gave (note_declarations outside rest) (λ all. Ok (first.0 ∷ all)) t first.2 in
    let good = declaration_sound outside d first.0 first.1 in
    let goods = declarations_sound outside rest others.0 others.1 in
    subst (λ all. GoodDeclarations outside all × (map erase_declaration all ≡ d ∷ rest))
    (judged_is (first.0 ∷ others.0) t others.2)
    ((good.0, goods.0), λ i. good.1 i ∷ goods.1 i)

abbrev pub IsPartOf : Outside → Option Entry → Option NotedEntry → Type 0
IsPartOf outside part t = GoodPart outside t × (option_map erase_entry t ≡ part)

part_sound : (outside : Outside) (part : Option Entry) (t : Option NotedEntry) → note_part outside part ≡ Ok t
    → IsPartOf outside part t
part_sound outside None t h = subst (IsPartOf outside None) (judged_is None t h) (tt, refl)
part_sound outside (Some e) t h =
    let step = then_gave (note_declarations outside e.tree.declarations)
    (λ ds. Ok (Some (noted_entry e ds))) t h in
    let good = declarations_sound outside e.tree.declarations step.0 step.1 in
    let erased : Some (erase_entry (noted_entry e step.0)) ≡ Some e =
    λ i. Some (record {
      file = e.file;
      tree = record {
        imports = e.tree.imports;
        at = e.tree.at;
        part = e.tree.part;
        name = e.tree.name;
        pragma = e.tree.pragma;
        declarations = good.1 i;
      };
    }) in
    subst (IsPartOf outside (Some e)) (judged_is (Some (noted_entry e step.0)) t step.2) (good.0, erased)

modules_sound : (outside : ℕ → Part → Outside) (place : ℕ) (ms : List ModuleParts) (t : List NotedParts)
    → note_modules outside place ms ≡ Ok t → GoodModules outside place t × (erase_program t ≡ ms)
modules_sound outside place [] t h =
    subst (λ all. GoodModules outside place all × (erase_program all ≡ [])) (judged_is [] t h) (tt, refl)
modules_sound outside place (m ∷ rest) t h =
    let first = then_gave (note_module outside place m)
    (λ noted. note_modules outside (place + 1) rest then λ all. Ok (noted ∷ all)) t h in
    let others = then_gave (note_modules outside (place + 1) rest) (λ all. Ok (first.0 ∷ all)) t first.2 in
    let one : NotedParts = first.0 in
    let interface = then_gave (note_part (outside place Interface) m.interface)
    (λ i. note_part (outside place Body) m.body
    then λ b. Ok (record { name = m.name; interface = i; body = b })) one first.1 in
    let body = then_gave (note_part (outside place Body) m.body)
    (λ b. Ok (record { name = m.name; interface = interface.0; body = b })) one interface.2 in
    let built : NotedParts = record { name = m.name; interface = interface.0; body = body.0 } in
    let left = part_sound (outside place Interface) m.interface interface.0 interface.1 in
    let right = part_sound (outside place Body) m.body body.0 body.1 in
    let goods = modules_sound outside (place + 1) rest others.0 others.1 in
    let is : (built ∷ others.0) ≡ t =
    ap (λ a. a ∷ others.0) (judged_is built one body.2) ∙ judged_is (one ∷ others.0) t others.2 in
    subst (λ all. GoodModules outside place all × (erase_program all ≡ m ∷ rest)) is (
      (left.0, right.0, goods.0),
      λ i. record { name = m.name; interface = left.1 i; body = right.1 i } ∷ goods.1 i,
    )

pub program_sound : (outside : ℕ → Part → Outside) (program : List ModuleParts) (noted : List NotedParts)
    → note_program outside program ≡ Ok noted → Derives outside program noted
program_sound outside program noted h =
    let good = modules_sound outside 0 program noted h in
    record { erased = good.1; good = good.0 }
