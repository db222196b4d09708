-- Declarations, modules and programs are refused for just what their first fault tells.
use Rattle.std.proofs.Common.{◌≡◌, ◌⊎◌, inl, inr, ℕ, ◌+◌, List, [], ◌∷◌, refl, sym, ap, subst, ◌∙◌, Option, Some, None}
use Rattle.std.specs.Prelude.{Ok, Err}
use Rattle.au_base.specs.declared.places.Pos.{Pos}
use Rattle.au_syntax.specs.declared.modules.Part.{Part}
use Rattle.au_syntax.specs.declared.modules.Part.TheVariants.{Interface, Body}
use Rattle.au_syntax.specs.Modules.{Constrained, Header, constant, opaque_type, record_type, union_type}
use Rattle.au_syntax.specs.Modules.{function, class, instance, constant_body, function_body, instance_body}
use Rattle.au_syntax.specs.Plain.{Bytes, PlainDeclaration, PlainMethod, PlainStatements}
use Rattle.au_modules.specs.Programs.{Entry, ModuleParts}
use Rattle.au_typing.specs.Scopes.{Outside}
use Rattle.au_typing.specs.Faults.{Fault}
use Rattle.au_typing.specs.Bodies.{GoodBody}
use Rattle.au_typing.specs.Derivations.{Derives, GoodDeclaration}
use Rattle.au_typing.specs.DerivationFaults.{Judged, ◌then◌, StatementFault, fault_at, placed}
use Rattle.au_typing.specs.ProgramSearch.{note_body, note_constant, note_declaration, note_declarations}
use Rattle.au_typing.specs.ProgramSearch.{note_methods, note_module, note_modules, note_part, note_program}
use Rattle.au_typing.specs.ProgramSearch.{noted_entry}
use Rattle.au_typing.specs.Trees.{NotedDeclaration, NotedEntry, NotedMethod, NotedParts, NotedStatements}
use Rattle.au_typing.specs.Trees.{erase_block, erase_declaration, erase_program}
use Rattle.au_typing.proofs.ProgramLemmas.{program_found, program_sound, body_sound}
use Rattle.au_typing.proofs.StepLemmas.{then_gave}
use Rattle.au_typing.proofs.RefusalLemmas.{then_failed}
use Rattle.au_laws.specs.FirstInPrograms.{DeclarationFault, DeclarationNoted, EachNoted, FirstAmong}
use Rattle.au_laws.specs.FirstInPrograms.{MethodFault, MethodNoted, ModulesFault, PartFault, PartNoted}
use Rattle.au_laws.specs.FirstInPrograms.{ProgramFault, of_a_constant, of_a_function, of_an_instance}
use Rattle.au_laws.proofs.BlockLemmas.{only_then, own_fails, placed_failed, then_fails, then_found}
use Rattle.au_laws.proofs.BodyLemmas.{body_fails, body_tells, constant_fails, constant_tells}

-- ---- a program of one declaration

-- its one file
abbrev one_file : PlainDeclaration → Entry
one_file d = record {
  file = 0;
  tree = record {
    imports = [];
    at = record { file = 0; line = 0; column = 0 };
    part = Body;
    name = [];
    pragma = None;
    declarations = d ∷ [];
  };
}

abbrev one_program : PlainDeclaration → List ModuleParts
one_program d = record { name = []; interface = None; body = Some (one_file d) } ∷ []

abbrev noted_one : PlainDeclaration → NotedDeclaration → List NotedParts
noted_one d a =
    record { name = []; interface = None; body = Some (noted_entry (one_file d) (a ∷ [])) } ∷ []

-- its first declaration, where it has one
abbrev first_of_tree : PlainDeclaration → List PlainDeclaration → PlainDeclaration
first_of_tree d [] = d
first_of_tree d (x ∷ rest) = x

abbrev first_of_part : PlainDeclaration → Option Entry → PlainDeclaration
first_of_part d None = d
first_of_part d (Some e) = first_of_tree d e.tree.declarations

abbrev first_of_program : PlainDeclaration → List ModuleParts → PlainDeclaration
first_of_program d [] = d
first_of_program d (m ∷ rest) = first_of_part d m.body

-- what the search for its notes makes of those of its declaration
abbrev whole : PlainDeclaration → Judged NotedDeclaration → Judged (List NotedParts)
whole d r = r then λ a. Ok (noted_one d a)

module _ (outside : Outside) where
  abbrev everywhere : ℕ → Part → Outside
  everywhere place part = outside

  whole_is : (d : PlainDeclaration) (r : Judged NotedDeclaration) → note_declaration outside d ≡ r
      → note_program everywhere (one_program d) ≡ whole d r
  whole_is d (Ok a) h =
      then_found
      (λ (m : NotedParts). note_modules everywhere 1 [] then λ (all : List NotedParts). Ok (m ∷ all))
      (then_found (λ (body : Option NotedEntry). Ok (record { name = []; interface = None; body = body }))
      (then_found (λ (ds : List NotedDeclaration). Ok (Some (noted_entry (one_file d) ds)))
      (then_found (λ (x : NotedDeclaration). Ok (x ∷ [])) h)))
  whole_is d (Err f) h =
      then_fails
      (λ (m : NotedParts). note_modules everywhere 1 [] then λ (all : List NotedParts). Ok (m ∷ all))
      (then_fails (λ (body : Option NotedEntry). Ok (record { name = []; interface = None; body = body }))
      (then_fails (λ (ds : List NotedDeclaration). Ok (Some (noted_entry (one_file d) ds)))
      (then_fails (λ (x : NotedDeclaration). Ok (x ∷ [])) h)))

  declaration_is : (d : PlainDeclaration) (a : NotedDeclaration) → note_declaration outside d ≡ Ok a
      → GoodDeclaration outside a × (erase_declaration a ≡ d)
  declaration_is d a h =
      let g = program_sound everywhere (one_program d) (noted_one d a) (whole_is d (Ok a) h) in
      (g.good.1.0, ap (first_of_program d) g.erased)

  some_given : (d : PlainDeclaration) (a : NotedDeclaration) (r : Judged NotedDeclaration)
      → note_declaration outside d ≡ r → note_program everywhere (one_program d) ≡ Ok (noted_one d a)
      → (x : NotedDeclaration) × (note_declaration outside d ≡ Ok x)
  some_given d a (Ok x) h whole_given = (x, h)
  some_given d a (Err f) h whole_given = absurd (never (sym (whole_is d (Err f) h) ∙ whole_given))
    where
      never : ◌≡◌ {A = Judged (List NotedParts)} (Err f) (Ok (noted_one d a)) → ⊥
      never h = cc

  declaration_given : (d : PlainDeclaration) → DeclarationNoted outside d
      → (x : NotedDeclaration) × (note_declaration outside d ≡ Ok x)
  declaration_given d (a, good, is) =
      some_given d a (note_declaration outside d) refl
      (program_found everywhere (one_program d) (noted_one d a)
      (record { erased = ap one_program is; good = (tt, (good, tt), tt) }))

  -- ---- methods

  abbrev body_in : PlainStatements → PlainDeclaration → PlainStatements
  body_in d (function_body at generics header body stop) = body
  body_in d other = d

  only_body : (at : Pos) (generics : List (Constrained Bytes)) (header : Header Bytes) (stop : Pos)
      (r : Judged NotedStatements) (x : NotedDeclaration)
      → (r then λ b. Ok (function_body at generics header b stop)) ≡ Ok x
      → (b : NotedStatements) × (r ≡ Ok b)
  only_body at generics header stop (Ok b) x h = (b, refl)
  only_body at generics header stop (Err f) x h = absurd cc

  method_given : (at : Pos) (generics : List (Constrained Bytes)) (header : Header Bytes)
      (body : PlainStatements) (stop : Pos) (b : NotedStatements) → GoodBody outside generics header b
      → erase_block b ≡ body
      → (x : NotedStatements) × (note_body outside at generics header body stop ≡ Ok x)
  method_given at generics header body stop b good is =
      let k = declaration_given (function_body at generics header body stop) (
        function_body at generics header b stop,
        good,
        ap (λ y. function_body at generics header y stop) is,
      ) in
      only_body at generics header stop (note_body outside at generics header body stop) k.0 k.1

  methods_fail : (generics : List (Constrained Bytes)) (ms : List PlainMethod) (f : StatementFault)
      → FirstAmong (MethodNoted outside generics) (MethodFault outside generics) ms f
      → note_methods outside generics ms ≡ Err f
  methods_fail generics [] f h = absurd h
  methods_fail generics (m ∷ rest) f (inl fault) =
      then_fails
      (λ b. note_methods outside generics rest
      then λ all. Ok (record { header = m.header; body = b; stop = m.stop } ∷ all))
      (body_fails outside m.header.name.at generics m.header m.body m.stop f fault)
  methods_fail generics (m ∷ rest) f (inr ((b, good, is), more)) =
      let k = method_given m.header.name.at generics m.header m.body m.stop b good is in
      then_found
      (λ c. note_methods outside generics rest
      then λ all. Ok (record { header = m.header; body = c; stop = m.stop } ∷ all)) k.1
      ∙ then_fails (λ all. Ok (record { header = m.header; body = k.0; stop = m.stop } ∷ all))
      (methods_fail generics rest f more)

  methods_tell : (generics : List (Constrained Bytes)) (ms : List PlainMethod) (f : StatementFault)
      → note_methods outside generics ms ≡ Err f
      → FirstAmong (MethodNoted outside generics) (MethodFault outside generics) ms f
  methods_tell generics [] f h = absurd cc
  methods_tell generics (m ∷ rest) f h =
      by (methods_tell generics rest f)
      (then_failed (note_body outside m.header.name.at generics m.header m.body m.stop)
      (λ b. note_methods outside generics rest
      then λ all. Ok (record { header = m.header; body = b; stop = m.stop } ∷ all)) f h)
    where
      by : (note_methods outside generics rest ≡ Err f
          → FirstAmong (MethodNoted outside generics) (MethodFault outside generics) rest f)
          → (note_body outside m.header.name.at generics m.header m.body m.stop ≡ Err f)
          ⊎ ((b : NotedStatements)
          × (note_body outside m.header.name.at generics m.header m.body m.stop ≡ Ok b)
          × ((note_methods outside generics rest
          then λ all. Ok (record { header = m.header; body = b; stop = m.stop } ∷ all)) ≡ Err f))
          → FirstAmong (MethodNoted outside generics) (MethodFault outside generics) (m ∷ rest) f
      by more (inl failed) =
          inl (body_tells outside m.header.name.at generics m.header m.body m.stop f failed)
      by more (inr (b, noted, failed)) =
          let g = body_sound outside m.header.name.at generics m.header m.body m.stop b noted in
          inr (
            (b, g.0, g.1),
            more (only_then (note_methods outside generics rest)
                (λ all. record { header = m.header; body = b; stop = m.stop } ∷ all) f failed),
          )

  -- ---- declarations

  declaration_fails : (d : PlainDeclaration) (f : StatementFault) → DeclarationFault outside d f
      → note_declaration outside d ≡ Err f
  declaration_fails d f (of_a_constant at name t e g fault) =
      own_fails at (λ a. Ok (constant_body at name t a)) (constant_fails outside t e g fault)
  declaration_fails d f (of_a_function at generics header body stop g fault) =
      then_fails (λ noted. Ok (function_body at generics header noted stop))
      (body_fails outside at generics header body stop g fault)
  declaration_fails d f (of_an_instance at generics name t methods g fault) =
      then_fails (λ noted. Ok (instance_body at generics name t noted)) (methods_fail generics methods g fault)

  declaration_tells : (d : PlainDeclaration) (f : StatementFault) → note_declaration outside d ≡ Err f
      → DeclarationFault outside d f
  declaration_tells (constant at name t) f h = absurd cc
  declaration_tells (opaque_type at name ps u) f h = absurd cc
  declaration_tells (record_type at name ps u fields) f h = absurd cc
  declaration_tells (union_type at name ps u cases) f h = absurd cc
  declaration_tells (function at generics header) f h = absurd cc
  declaration_tells (class at name p headers) f h = absurd cc
  declaration_tells (instance at generics name t) f h = absurd cc
  declaration_tells (constant_body at name t e) f h =
      let k = placed_failed at (note_constant outside t e) f
      (only_then (placed at (note_constant outside t e)) (λ a. constant_body at name t a) f h) in
      subst (λ g. DeclarationFault outside (constant_body at name t e) g) (sym k.2)
      (of_a_constant at name t e k.0 (constant_tells outside t e k.0 k.1))
  declaration_tells (function_body at generics header body stop) f h =
      of_a_function at generics header body stop f
      (body_tells outside at generics header body stop f
      (only_then (note_body outside at generics header body stop)
      (λ noted. function_body at generics header noted stop) f h))
  declaration_tells (instance_body at generics name t methods) f h =
      of_an_instance at generics name t methods f
      (methods_tell generics methods f
      (only_then (note_methods outside generics methods) (λ noted. instance_body at generics name t noted) f h))

  declarations_fail : (ds : List PlainDeclaration) (f : StatementFault)
      → FirstAmong (DeclarationNoted outside) (DeclarationFault outside) ds f
      → note_declarations outside ds ≡ Err f
  declarations_fail [] f h = absurd h
  declarations_fail (d ∷ rest) f (inl fault) =
      then_fails (λ noted. note_declarations outside rest then λ all. Ok (noted ∷ all))
      (declaration_fails d f fault)
  declarations_fail (d ∷ rest) f (inr (noted, more)) =
      let k = declaration_given d noted in
      then_found (λ a. note_declarations outside rest then λ all. Ok (a ∷ all)) k.1
      ∙ then_fails (λ all. Ok (k.0 ∷ all)) (declarations_fail rest f more)

  declarations_tell : (ds : List PlainDeclaration) (f : StatementFault)
      → note_declarations outside ds ≡ Err f
      → FirstAmong (DeclarationNoted outside) (DeclarationFault outside) ds f
  declarations_tell [] f h = absurd cc
  declarations_tell (d ∷ rest) f h =
      by (declarations_tell rest f)
      (then_failed (note_declaration outside d)
      (λ noted. note_declarations outside rest then λ all. Ok (noted ∷ all)) f h)
    where
      by : (note_declarations outside rest ≡ Err f
          → FirstAmong (DeclarationNoted outside) (DeclarationFault outside) rest f)
          → (note_declaration outside d ≡ Err f)
          ⊎ ((a : NotedDeclaration) × (note_declaration outside d ≡ Ok a)
          × ((note_declarations outside rest then λ all. Ok (a ∷ all)) ≡ Err f))
          → FirstAmong (DeclarationNoted outside) (DeclarationFault outside) (d ∷ rest) f
      by more (inl failed) = inl (declaration_tells d f failed)
      by more (inr (a, noted, failed)) =
          let g = declaration_is d a noted in
          inr ((a, g.0, g.1), more (only_then (note_declarations outside rest) (λ all. a ∷ all) f failed))

  each_given : (ds : List PlainDeclaration) → EachNoted outside ds
      → (all : List NotedDeclaration) × (note_declarations outside ds ≡ Ok all)
  each_given [] g = ([], refl)
  each_given (d ∷ rest) g =
      let one = declaration_given d g.0 in
      let more = each_given rest g.1 in (
        one.0 ∷ more.0,
        then_found (λ a. note_declarations outside rest then λ all. Ok (a ∷ all)) one.1
            ∙ then_found (λ all. Ok (one.0 ∷ all)) more.1,
      )

  each_is : (ds : List PlainDeclaration) (all : List NotedDeclaration) → note_declarations outside ds ≡ Ok all
      → EachNoted outside ds
  each_is [] all h = tt
  each_is (d ∷ rest) all h =
      by (each_is rest)
      (then_gave (note_declaration outside d)
      (λ noted. note_declarations outside rest then λ more. Ok (noted ∷ more)) all h)
    where
      by : ((more : List NotedDeclaration) → note_declarations outside rest ≡ Ok more → EachNoted outside rest)
          → (a : NotedDeclaration) × (note_declaration outside d ≡ Ok a)
          × ((note_declarations outside rest then λ more. Ok (a ∷ more)) ≡ Ok all) → EachNoted outside (d ∷ rest)
      by others (a, noted, rest_noted) =
          let g = declaration_is d a noted in
          let more = then_gave (note_declarations outside rest) (λ more. Ok (a ∷ more)) all rest_noted in
          ((a, g.0, g.1), others more.0 more.1)

  -- ---- parts of modules

  part_fails : (part : Option Entry) (f : StatementFault) → PartFault outside part f
      → note_part outside part ≡ Err f
  part_fails None f h = absurd h
  part_fails (Some e) f h =
      then_fails (λ ds. Ok (Some (noted_entry e ds))) (declarations_fail e.tree.declarations f h)

  part_tells : (part : Option Entry) (f : StatementFault) → note_part outside part ≡ Err f
      → PartFault outside part f
  part_tells None f h = absurd cc
  part_tells (Some e) f h =
      declarations_tell e.tree.declarations f
      (only_then (note_declarations outside e.tree.declarations) (λ ds. Some (noted_entry e ds)) f h)

  part_given : (part : Option Entry) → PartNoted outside part
      → (a : Option NotedEntry) × (note_part outside part ≡ Ok a)
  part_given None g = (None, refl)
  part_given (Some e) g =
      let all = each_given e.tree.declarations g in
      (Some (noted_entry e all.0), then_found (λ ds. Ok (Some (noted_entry e ds))) all.1)

  part_is : (part : Option Entry) (a : Option NotedEntry) → note_part outside part ≡ Ok a
      → PartNoted outside part
  part_is None a h = tt
  part_is (Some e) a h =
      let all = then_gave (note_declarations outside e.tree.declarations) (λ ds. Ok (Some (noted_entry e ds))) a h in
      each_is e.tree.declarations all.0 all.1

-- ---- modules

module _ (outside : ℕ → Part → Outside) where
  modules_fail : (place : ℕ) (ms : List ModuleParts) (f : StatementFault) → ModulesFault outside place ms f
      → note_modules outside place ms ≡ Err f
  modules_fail place [] f h = absurd h
  modules_fail place (m ∷ rest) f (inl fault) =
      then_fails (λ noted. note_modules outside (place + 1) rest then λ all. Ok (noted ∷ all))
      (then_fails
      (λ interface. note_part (outside place Body) m.body
      then λ body. Ok (record { name = m.name; interface = interface; body = body }))
      (part_fails (outside place Interface) m.interface f fault))
  modules_fail place (m ∷ rest) f (inr (noted, inl fault)) =
      let k = part_given (outside place Interface) m.interface noted in
      then_fails (λ x. note_modules outside (place + 1) rest then λ all. Ok (x ∷ all))
      (then_found
      (λ interface. note_part (outside place Body) m.body
      then λ body. Ok (record { name = m.name; interface = interface; body = body })) k.1
      ∙ then_fails (λ body. Ok (record { name = m.name; interface = k.0; body = body }))
      (part_fails (outside place Body) m.body f fault))
  modules_fail place (m ∷ rest) f (inr (noted, inr (whole_noted, more))) =
      let k = part_given (outside place Interface) m.interface noted in
      let b = part_given (outside place Body) m.body whole_noted in
      then_found (λ x. note_modules outside (place + 1) rest then λ all. Ok (x ∷ all))
      (then_found
      (λ interface. note_part (outside place Body) m.body
      then λ body. Ok (record { name = m.name; interface = interface; body = body })) k.1
      ∙ then_found (λ body. Ok (record { name = m.name; interface = k.0; body = body })) b.1)
      ∙ then_fails (λ all. Ok (record { name = m.name; interface = k.0; body = b.0 } ∷ all))
      (modules_fail (place + 1) rest f more)

  -- what comes of a module whose parts have good notes
  module_is : (place : ℕ) (m : ModuleParts) (a : NotedParts) → note_module outside place m ≡ Ok a
      → PartNoted (outside place Interface) m.interface × PartNoted (outside place Body) m.body
  module_is place m a h =
      let interface = then_gave (note_part (outside place Interface) m.interface)
      (λ i. note_part (outside place Body) m.body
      then λ body. Ok (record { name = m.name; interface = i; body = body })) a h in
      let body = then_gave (note_part (outside place Body) m.body)
      (λ b. Ok (record { name = m.name; interface = interface.0; body = b })) a interface.2 in (
        part_is (outside place Interface) m.interface interface.0 interface.1,
        part_is (outside place Body) m.body body.0 body.1,
      )

  -- a module of these parts
  abbrev parts_of : Bytes → Option NotedEntry → Option NotedEntry → NotedParts
  parts_of name interface body = record { name = name; interface = interface; body = body }

  module_tells : (place : ℕ) (m : ModuleParts) (rest : List ModuleParts) (f : StatementFault)
      → (note_part (outside place Interface) m.interface ≡ Err f)
      ⊎ ((i : Option NotedEntry) × (note_part (outside place Interface) m.interface ≡ Ok i)
      × ((note_part (outside place Body) m.body
      then λ body. Ok (parts_of m.name i body)) ≡ Err f))
      → ModulesFault outside place (m ∷ rest) f
  module_tells place m rest f (inl failed) = inl (part_tells (outside place Interface) m.interface f failed)
  module_tells place m rest f (inr (i, noted, failed)) =
      inr (
        part_is (outside place Interface) m.interface i noted,
        inl (part_tells (outside place Body) m.body f
            (only_then (note_part (outside place Body) m.body)
            (λ body. parts_of m.name i body) f failed)),
      )

  modules_tell : (place : ℕ) (ms : List ModuleParts) (f : StatementFault) → note_modules outside place ms ≡ Err f
      → ModulesFault outside place ms f
  modules_tell place [] f h = absurd cc
  modules_tell place (m ∷ rest) f h =
      by (modules_tell (place + 1) rest f)
      (then_failed (note_module outside place m)
      (λ noted. note_modules outside (place + 1) rest then λ all. Ok (noted ∷ all)) f h)
    where
      by : (note_modules outside (place + 1) rest ≡ Err f → ModulesFault outside (place + 1) rest f)
          → (note_module outside place m ≡ Err f)
          ⊎ ((a : NotedParts) × (note_module outside place m ≡ Ok a)
          × ((note_modules outside (place + 1) rest then λ all. Ok (a ∷ all)) ≡ Err f))
          → ModulesFault outside place (m ∷ rest) f
      by more (inl failed) =
          module_tells place m rest f
          (then_failed (note_part (outside place Interface) m.interface)
          (λ i. note_part (outside place Body) m.body then λ body. Ok (parts_of m.name i body)) f failed)
      by more (inr (a, noted, failed)) =
          let g = module_is place m a noted in
          inr (
            g.0,
            inr (
              g.1,
              more (only_then (note_modules outside (place + 1) rest) (λ all. a ∷ all) f failed),
            ),
          )

  pub program_fails : (program : List ModuleParts) (f : StatementFault) → ProgramFault outside program f
      → note_program outside program ≡ Err f
  program_fails program f h = modules_fail 0 program f h

  pub program_tells : (program : List ModuleParts) (f : StatementFault) → note_program outside program ≡ Err f
      → ProgramFault outside program f
  program_tells program f h = modules_tell 0 program f h
