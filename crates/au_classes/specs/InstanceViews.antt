-- What the code's instances and methods say.
use Rattle.std.specs.Prelude.{ℕ, List, Option, Vec, map}
use Rattle.std.specs.Borrow.{Bor}
use Rattle.std.specs.Global.{Global}
use Rattle.std.specs.Option.{option_map}
use Rattle.au_syntax.specs.contracts.parsed.ParsedPhase.TheImpl.{ghosts as parsed}
use Rattle.au_syntax.specs.declared.declarations.Method.{Method}
use Rattle.au_syntax.specs.declared.parsed.Parsed.{Parsed}
use Rattle.au_syntax.specs.Plain.{PlainMethod, plain_method}
use Rattle.au_syntax.specs.Views.{method_body, written}
use Rattle.au_promises.specs.Written.{generics_of, name_of}
use Rattle.au_classes.specs.declared.instance_texts.InstanceText as code
use Rattle.au_classes.specs.Texts.{InstanceText}

-- methods
abbrev pub methods_of : List (Method Parsed (List ℕ) (Unit {0}) (Unit {0})) → List PlainMethod
methods_of all = map (plain_method parsed.name_bytes) (map (method_body parsed) all)

-- methods behind a reference, if there are any
abbrev pub methods_seen : Option (Bor (Vec (Method Parsed (List ℕ) (Unit {0}) (Unit {0})) Global)) →
    Option (List PlainMethod)
methods_seen found =
    option_map
    (λ (b : Bor (Vec (Method Parsed (List ℕ) (Unit {0}) (Unit {0})) Global)). methods_of b.now.items)
    found

-- an instance
abbrev pub text_said : code.InstanceText → InstanceText
text_said t = record {
  at = t.at;
  number = t.number;
  part = t.part;
  generics = generics_of t.generics.now.items;
  name = name_of t.name.now;
  of = written t.of.now;
  methods = methods_seen t.methods;
}

-- instances
abbrev pub texts_said : List code.InstanceText → List InstanceText
texts_said all = map text_said all
