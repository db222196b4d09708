-- What the code's classes and methods say.
use Rattle.std.specs.Prelude.{◌≡◌, ℕ, List, Option, Some, map}
use Rattle.std.specs.Borrow.{Bor}
use Rattle.std.specs.Option.{option_map}
use Rattle.au_syntax.specs.contracts.parsed.ParsedPhase.TheImpl.{ghosts as parsed}
use Rattle.au_syntax.specs.declared.declarations.Method.{Method}
use Rattle.au_syntax.specs.declared.declarations.Signature.{Signature}
use Rattle.au_syntax.specs.declared.parsed.Parsed.{Parsed}
use Rattle.au_syntax.specs.Modules.{Header}
use Rattle.au_syntax.specs.Plain.{Bytes, PlainMethod, plain_header, plain_method}
use Rattle.au_syntax.specs.Types.{WrittenType}
use Rattle.au_syntax.specs.Views.{header, method_body}
use Rattle.au_types.specs.Types.{Meaning}
use Rattle.au_matching.specs.Bindings.{Bindings}
use Rattle.au_matching.specs.Substituted.{substituted}
use Rattle.au_types.specs.declared.scopes.Scope.{Scope}
use Rattle.au_types.specs.WrittenViews.{meant_in}
use Rattle.au_judged_types.specs.Meanings.{parameter}
use Rattle.au_promises.specs.Written.{parameter_of}
use Rattle.au_classes.specs.declared.class_texts.ClassText as code
use Rattle.au_classes.specs.Classes.{ClassText}

-- methods of a class
abbrev pub headers_of : List (Signature Parsed (List ℕ) (Unit {0}) (Unit {0})) → List (Header Bytes)
headers_of all = map (plain_header parsed.name_bytes) (map (header parsed) all)

-- a class
abbrev pub class_said : code.ClassText → ClassText
class_said class = record {
  visible = class.visible.now;
  parameter = parameter (parameter_of class.parameter.now);
  methods = headers_of class.methods.now.items;
}

-- what a written type means in a scope, under a substitution
abbrev pub wanted_in : Scope → Bindings → WrittenType → Option Meaning
wanted_in scope s t = option_map (substituted s) (meant_in scope t)

-- a method of an instance
abbrev pub method_of : Method Parsed (List ℕ) (Unit {0}) (Unit {0}) → PlainMethod
method_of one = plain_method parsed.name_bytes (method_body parsed one)

-- a method behind a reference, if there is one
abbrev pub method_seen : Option (Bor (Method Parsed (List ℕ) (Unit {0}) (Unit {0}))) → Option PlainMethod
method_seen found =
    option_map (λ (b : Bor (Method Parsed (List ℕ) (Unit {0}) (Unit {0}))). method_of b.now) found

-- the name by which a method of an instance is found, and that of a method of a class
abbrev pub named_by : PlainMethod → Option Bytes
named_by m = Some m.header.name.name

abbrev pub called_by : Header Bytes → Option Bytes
called_by h = Some h.name.name
