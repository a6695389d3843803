-- What is promised of the choice from C, besides its contract: a statement only.
use Rattle.std.specs.Prelude.{ℕ, ◌<◌, ◌≡◌, Bool, List}
use Rattle.shape.specs.Calls.{answers}
use Rattle.engine.specs.Calls.{World}
use Rattle.choosing.specs.Choosing.{send, ask_choice}
use Rattle.choosing.specs.declared.asking.Chosen.{Chosen}

-- 32, which says that nothing is to be sent, is never the number of a buffer that is chosen
abbrev pub NothingIsNoBuffer : Type 0
NothingIsNoBuffer =
    (w : World) (passive : Bool) (out : List ℕ) (c : Chosen) → (ask_choice w passive out).says ≡ answers (send c)
    → c.buffer < 32
