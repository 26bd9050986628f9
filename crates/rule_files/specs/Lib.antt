-- For callers
pub mod FileModel  -- what a model that a file describes means
pub mod RuleFile  -- what the file of a model by rules says
pub mod Kinds  -- kinds of processes, and what they do
pub mod Reading  -- which text spells which rule
pub mod FileTable  -- model files of all models
pub mod Arrays  -- arrays in the state
pub mod Names  -- names in the file of a model by rules
pub mod Printed  -- what `check` prints of a model by rules
pub mod KindViews  -- kinds as contracts see them
pub mod Digest
-- The grammar of the texts of rules
pub mod Lexical  -- names, numbers and signs
pub mod Scopes  -- what names mean
pub mod Grammar  -- values
pub mod Statements
pub mod Sends  -- what each `send` says beside the grammar
pub mod Texts  -- which text is which rule
pub mod ReadingValues  -- one pass from the left
pub mod ReadingStatements
