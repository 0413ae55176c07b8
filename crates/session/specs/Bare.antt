-- What is read beyond the indices of an array.
use Rattle.std.specs.Prelude.{false, []}
use Rattle.session.specs.declared.Notice.{Notice}
use Rattle.session.specs.declared.Energies.{Energies}
use Rattle.session.specs.declared.Verdict.{Verdict}
use Rattle.session.specs.declared.HourFigures.{HourFigures}

abbrev pub bare_notice : Notice
bare_notice = record { given = false; reserved = 0; reserved2 = 0; energies = [] }

abbrev pub bare_energies : Energies
bare_energies = record { energies = []; prices = [] }

abbrev pub bare_verdict : Verdict
bare_verdict = record { accepted = false; reserved = 0; reserved2 = 0; limit = 0; hour = 0 }

abbrev pub bare_figures : HourFigures
bare_figures = record { price = 0; market = []; bilateral = []; maxima = []; matched = []; executed = [] }
