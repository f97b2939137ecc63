-- The numbers of the fault codes.
use Rattle.std.specs.Prelude.{ℕ}
use Rattle.wr_io.specs.declared.fault.Code.{Code}
use Rattle.wr_io.specs.declared.fault.Code.TheVariants.{BadTag, Short, BadNumber, BadRef, Nesting, BadColour, BadMode, IframeOrder, NotRoot, UnknownImage, BadPixels, BadRadius, Limit, Trailing, TooManyItems, TooDeep, TooManyPixels}

abbrev pub code_number : Code → ℕ
code_number BadTag = 1
code_number Short = 2
code_number BadNumber = 3
code_number BadRef = 4
code_number Nesting = 5
code_number BadColour = 6
code_number BadMode = 7
code_number IframeOrder = 8
code_number NotRoot = 9
code_number UnknownImage = 10
code_number BadPixels = 11
code_number BadRadius = 12
code_number Limit = 13
code_number Trailing = 14
code_number TooManyItems = 15
code_number TooDeep = 16
code_number TooManyPixels = 17
