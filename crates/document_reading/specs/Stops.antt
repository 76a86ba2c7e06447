-- What errors of the book are to the reading of a document.
use Rattle.svc_graph.specs.declared.errors.ChangeError.{ChangeError}
use Rattle.svc_graph.specs.declared.errors.ChangeError.TheVariants as error
use Rattle.document_reading.specs.declared.refusal.Code.TheVariants.{E08, E09, E10, E11, E13, E14, E15, E16}
use Rattle.document_reading.specs.declared.line_error.LineError.{LineError}
use Rattle.document_reading.specs.declared.line_error.LineError.TheVariants.{Refused, OutOfMemory}

-- the code of the first test that holds, or out of memory
abbrev pub stop_of : ChangeError → LineError
stop_of error.Unknown = Refused E08
stop_of error.RankNotLower = Refused E09
stop_of error.WrongType = Refused E10
stop_of error.TooMany = Refused E11
stop_of error.NotInput = Refused E13
stop_of error.NotDerived = Refused E14
stop_of error.Already = Refused E15
stop_of error.NotMember = Refused E16
stop_of error.OutOfMemory = OutOfMemory
