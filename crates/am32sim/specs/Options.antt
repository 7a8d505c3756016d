-- The options of the program, as what the words give.
use Rattle.std.specs.Prelude.{option_map}
use Rattle.am32sim.specs.declared.options.Options.{Options}
use Rattle.am32sim.specs.declared.words.Asked.{Asked as Read}
use Rattle.am32sim.specs.Words.{Given, Asked}

abbrev pub given_of : Options → Given
given_of o = record { cost = o.cost; nest = o.nest; image = option_map (λ path. path.now) o.image }

abbrev pub asked_of : Read → Asked
asked_of a = record { command = a.command; given = given_of a.options }
