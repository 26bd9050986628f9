-- What a node program says in its hello.
use Rattle.std.specs.Prelude.{◌≡◌, ◌≢◌, ℕ, List, Ok, Some}
use Rattle.frames.specs.Hellos.{hello_cut}
use Rattle.frames.specs.declared.greeting.Hello.{Hello}

-- these bytes begin with a hello that is not this one
abbrev pub IsOther : Hello → List ℕ → Type 0
IsOther own bytes = (h : Hello) × ((hello_cut bytes).found ≡ Ok (Some h)) × (own ≢ h)
