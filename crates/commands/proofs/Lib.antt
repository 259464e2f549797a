mod Readings
mod NewIndexLemmas
mod IndexCommandRows
mod ExplainRows
