mod PageLemmas
mod VariableParts
mod LinkParts
mod ArithmeticParts
mod ListParts
mod TermParts
mod TextParts
mod SayableLemmas
pub mod SaidLemmas
mod SaidConnected
pub mod SaidTerm
mod SaidFormula
mod BackLemmas
mod BackConnected
mod BackLinks
mod BackLevel
mod BackTerm
mod BackFormula
mod SaidText
mod BackText
mod LexicalLemmas
mod PrintLemmas
pub mod CutLemmas
mod CutWords
mod WrittenLemmas
mod WellTerm
mod WellText
mod RangeWords
mod RangeCut
mod CommentCut
pub mod SaidRanges
