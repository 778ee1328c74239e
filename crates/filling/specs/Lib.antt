pub mod FillsData
